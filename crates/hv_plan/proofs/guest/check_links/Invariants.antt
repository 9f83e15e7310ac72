use Rattle.std.proofs.Common.{◌≡◌, drop}
use Rattle.std.specs.Prelude.{Some}
use Rattle.hv_dtree.specs.Nodes.{name_of}
use Rattle.hv_plan.specs.Links.{link_causes}
use Rattle.hv_plan.specs.Guests.{faults_from, in_regions}
use Rattle.hv_plan.proofs.guest.check_links.Given as goal

abbrev pub invariant-loop-row : goal.invariant-loop-row
invariant-loop-row l =
    faults_from (in_regions l.guest) name_of (link_causes (Some l.aspace) l.nodes) l.row (drop l.row l.nodes) ≡ faults_from (in_regions l.guest) name_of (link_causes (Some l.aspace) l.nodes) 0 l.nodes
