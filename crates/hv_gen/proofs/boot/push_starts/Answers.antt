use Rattle.std.proofs.Common.{List, ℕ, ◌++◌, ap, ◌∙◌, arith}
use Rattle.hv_gen.specs.Boot.{start_lines}
use Rattle.hv_gen.proofs.Counting.{text_more}
use Rattle.hv_gen.proofs.boot.push_starts.Goals as goal

pub guests-preserved : goal.guests-preserved
guests-preserved c =
    c.in_ok-push_start.ensures ∙ ap (λ (t : List ℕ). t ++ start_lines c.guests.guest) c.guests.invariant
    ∙ text_more start_lines c.args.to.now 0 c.guests.guest c.guests.guest (omega arith)
