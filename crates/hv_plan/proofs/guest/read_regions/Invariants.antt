use Rattle.std.proofs.Common.{◌≡◌, ◌++◌, drop}
use Rattle.std.specs.Prelude.{Some}
use Rattle.hv_dtree.specs.Nodes.{name_of}
use Rattle.hv_plan.specs.Regions.{region_causes}
use Rattle.hv_plan.specs.Links.{region_plan, region_plans}
use Rattle.hv_plan.specs.Guests.{faults_from, in_regions}
use Rattle.hv_plan.proofs.Faults.{rows_from}
use Rattle.hv_plan.proofs.guest.read_regions.Given as goal

abbrev pub invariant-loop-row : goal.invariant-loop-row
invariant-loop-row l = record {
  faults : faults_from (in_regions l.guest) name_of (λ row node. region_causes l.areas node) l.row (drop l.row l.nodes) ≡ faults_from (in_regions l.guest) name_of (λ row node. region_causes l.areas node) 0 l.nodes;
  made : l.plans.items ++ rows_from (region_plan l.areas (Some l.aspace) l.nodes) l.row (drop l.row l.nodes) ≡ region_plans l.areas (Some l.aspace) l.nodes;
}
