use Rattle.std.proofs.Common.{◌≡◌, ◌-◌, length, map, take}
use Rattle.hv_rules.specs.Space.{listed}
use Rattle.hv_guest_steps.proofs.listing.listed_windows.Given as goal

abbrev pub invariant-others : goal.invariant-others
invariant-others l = l.list.items ≡ map listed (take l.place l.windows)

abbrev pub decreases-others : goal.decreases-others
decreases-others l = length l.windows - l.place
