use Rattle.std.proofs.Common.{append_assoc}
use Rattle.xvsim.proofs.report.push_heading.Goals as goal

pub returns : goal.returns
returns c = λ devices.
    rw (c.in_ok-append-3.ensures.ok, c.in_ok-push_decimal-2.ensures.ok, c.in_ok-append-2.ensures.ok, c.in_ok-push_decimal.ensures.ok, c.in_ok-append.ensures.ok) (simp append_assoc)
