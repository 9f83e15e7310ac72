use Rattle.std.proofs.Common.{◌-◌, length, take}
use Rattle.hv_region.specs.Windows.{HasNone}
use Rattle.hv_region.proofs.tests.add.Given as goal

abbrev pub invariant-others : goal.invariant-others
invariant-others l = HasNone (take l.place l.windows) l.window.owner

abbrev pub decreases-others : goal.decreases-others
decreases-others l = length l.windows - l.place
