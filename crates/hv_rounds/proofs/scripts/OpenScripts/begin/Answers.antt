use Rattle.std.proofs.Common.{ℕ, List, sym, ap, ◌∙◌, Some}
use Rattle.hv_model.specs.Session.{next_in}
use Rattle.hv_rounds.specs.Stack.{reversed}
use Rattle.hv_rounds.proofs.Stacks.{reversed-push, begins-here, begins-further}
use Rattle.hv_rounds.proofs.scripts.OpenScripts.begin.Goals as goal

pub returns-in-Some-2 : goal.returns-in-Some-2
returns-in-Some-2 c =
    let read = rw c.in-Some-2.is at c.in_ok-line.ensures.read in
    let pushed = ap reversed c.in_ok-push.ensures.items ∙ reversed-push c.pop.new.self.items c.next_line.new.self in
    ap next_in (sym c.self.view_is) ∙ sym c.loop-script.invariant
    ∙ begins-here c.loop-script.self-inside.scripts.items c.pop.new.self.items c.in-Some.script c.next_line.new.self c.in-Some-2.line c.in-Some.ensures.items read
    ∙ ap (λ (z : List (List (List ℕ))). Some (c.in-Some-2.line, z)) (sym pushed)

pub loop-script-preserved : goal.loop-script-preserved
loop-script-preserved c =
    let read = rw c.in_default-2.is at c.in_ok-line.ensures.read in
    sym (begins-further c.loop-script.self-inside.scripts.items c.pop.new.self.items c.in-Some.script c.in-Some.ensures.items read.0) ∙ c.loop-script.invariant
