use Rattle.std.proofs.Common.{◌<◌, length, Some, subst, sym, ap, ◌∙◌, arith}
use Rattle.hv_rules.specs.Line.{Ask, rest, undoing}
use Rattle.hv_programs.specs.Ask.{steps_in}
use Rattle.hv_programs.specs.Line.{IsAsk}
use Rattle.hv_programs.proofs.Asks.{ask_at}
use Rattle.hv_programs.proofs.Places.{next_on, next_back}
use Rattle.hv_programs.proofs.line.next_in.Goals as goal

pub returns-then-made-len-clause-next : goal.returns-then-made-len-clause-next
returns-then-made-len-clause-next c =
    let below : c.args.made < length (steps_in c.args.steps.now) = omega (arith, c.len.ensures) in
    ap (λ (a : Ask). Some a) (c.at.ensures rest)
    ∙ sym (next_on c.args.way.now (steps_in c.args.steps.now) c.args.made rest c.in-On.is below)

pub returns-then-made-len-clause-ask : goal.returns-then-made-len-clause-ask
returns-then-made-len-clause-ask c =
    let below : c.args.made < length (steps_in c.args.steps.now) = omega (arith, c.len.ensures) in
    subst IsAsk (sym (c.at.ensures rest)) (ask_at (steps_in c.args.steps.now) c.args.made rest c.requires.asks below)

pub returns-else-made-eq0-clause-next : goal.returns-else-made-eq0-clause-next
returns-else-made-eq0-clause-next c =
    let some : 0 < c.args.made = omega arith in
    ap (λ (a : Ask). Some a) (c.undoing.ensures ∙ ap undoing (c.at-in-Back.ensures rest))
    ∙ sym (next_back c.args.way.now c.in-Back.field-0 (steps_in c.args.steps.now) c.args.made rest c.in-Back.is some c.requires.stands)
