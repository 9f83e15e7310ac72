use Rattle.std.proofs.Common.{◌≡◌, drop}
use Rattle.std.specs.List.{list_any}
use Rattle.hv_plan.specs.Windows.{has_range}
use Rattle.hv_plan.proofs.windows.lacks_target.Given as goal

abbrev pub invariant-loop-other : goal.invariant-loop-other
invariant-loop-other l = list_any (has_range l.region l.base) (drop l.other-index l.regions) ≡ list_any (has_range l.region l.base) l.regions
