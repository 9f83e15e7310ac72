use Rattle.std.proofs.Common.{◌≡◌, ◌++◌, drop, map}
use Rattle.hv_plan.specs.Settings.{area_faults, area_of_node}
use Rattle.hv_plan.proofs.host.read_areas.Given as goal

abbrev pub invariant-loop-row : goal.invariant-loop-row
invariant-loop-row l = record {
  faults : area_faults (drop l.row l.nodes) ≡ area_faults l.nodes;
  made : l.areas.items ++ map area_of_node (drop l.row l.nodes) ≡ map area_of_node l.nodes;
}
