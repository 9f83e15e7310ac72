use Rattle.std.proofs.Common.{◌≡◌, drop}
use Rattle.std.specs.List.{position_from}
use Rattle.hv_plan.specs.Links.{has_phandle}
use Rattle.hv_plan.proofs.link.row_of.Given as goal

abbrev pub invariant-loop-row : goal.invariant-loop-row
invariant-loop-row l = position_from (has_phandle l.phandle) l.row (drop l.row l.regions) ≡ position_from (has_phandle l.phandle) 0 l.regions
