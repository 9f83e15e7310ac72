use Rattle.std.proofs.Common.{◌≡◌, drop}
use Rattle.std.specs.List.{list_any}
use Rattle.hv_plan.specs.Windows.{blocks}
use Rattle.hv_plan.proofs.windows.is_blocked.Given as goal

abbrev pub invariant-loop-one : goal.invariant-loop-one
invariant-loop-one l = list_any (blocks l.region) (drop l.one-index l.earlier) ≡ list_any (blocks l.region) l.earlier
