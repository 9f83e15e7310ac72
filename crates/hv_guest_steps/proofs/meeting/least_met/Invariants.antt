use Rattle.std.proofs.Common.{◌≡◌, ◌-◌, length, drop}
use Rattle.std.specs.Prelude.{filter}
use Rattle.hv_body.specs.Windows.{meets}
use Rattle.hv_rules.specs.Space.{least_row}
use Rattle.hv_guest_steps.proofs.Meetings.{joined}
use Rattle.hv_guest_steps.proofs.meeting.least_met.Given as goal

abbrev pub invariant-others : goal.invariant-others
invariant-others l =
    least_row (filter (meets l.window) l.windows) ≡ joined l.least (least_row (filter (meets l.window) (drop l.place l.windows)))

abbrev pub decreases-others : goal.decreases-others
decreases-others l = length l.windows - l.place
