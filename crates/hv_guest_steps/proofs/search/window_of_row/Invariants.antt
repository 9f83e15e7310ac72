use Rattle.std.proofs.Common.{◌≡◌, ◌-◌, length, drop}
use Rattle.std.specs.List.{find}
use Rattle.hv_rules.specs.Space.{is_of}
use Rattle.hv_guest_steps.proofs.search.window_of_row.Given as goal

abbrev pub invariant-others : goal.invariant-others
invariant-others l = find (is_of l.row) l.windows ≡ find (is_of l.row) (drop l.place l.windows)

abbrev pub decreases-others : goal.decreases-others
decreases-others l = length l.windows - l.place
