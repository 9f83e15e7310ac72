use Rattle.std.proofs.Common.{List, ℕ, ◌++◌, ap, ◌∙◌, arith}
use Rattle.hv_gen.specs.Host.{guest_line}
use Rattle.hv_gen.proofs.Counting.{text_more}
use Rattle.hv_gen.proofs.host.push_guests.Goals as goal

pub guests-preserved : goal.guests-preserved
guests-preserved c =
    c.in_ok-push_guest.ensures ∙ ap (λ (t : List ℕ). t ++ guest_line c.guests.guest) c.guests.invariant
    ∙ text_more guest_line c.args.to.now 0 c.guests.guest c.guests.guest (omega arith)
