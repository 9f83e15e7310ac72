use Rattle.std.proofs.Common.{◌≡◌, drop}
use Rattle.std.specs.List.{position_from}
use Rattle.hv_plan.specs.Regions.{is_named}
use Rattle.hv_plan.proofs.region.area_named.Given as goal

abbrev pub invariant-loop-place : goal.invariant-loop-place
invariant-loop-place l = position_from (is_named l.name) l.place (drop l.place l.areas) ≡ position_from (is_named l.name) 0 l.areas
