use Rattle.std.proofs.Common.{ℕ, List, [], ◌∷◌, ◌++◌, subst, sym}
use Rattle.std.specs.Prelude.{Some}
use Rattle.hv_text.specs.Path.{path_text}
use Rattle.hv_dtree.specs.Nodes.{name_of}
use Rattle.hv_plan.specs.Regions.{region_causes}
use Rattle.hv_plan.specs.Links.{region_plan, region_plans}
use Rattle.hv_plan.specs.Guests.{faults_from, in_regions}
use Rattle.hv_plan.specs.Reading.{Tells}
use Rattle.hv_plan.proofs.Faults.{fault_here, told_reading, none_first, pass_one, row_more}
use Rattle.hv_plan.proofs.guest.read_regions.Goals as goal

pub returns-in-Some : goal.returns-in-Some
returns-in-Some c =
    let guest = c.args.guest.now in
    let nodes = c.args.nodes.now in
    let node = c.index-nodes-row.result in
    let areas = c.args.areas.now in
    let faults = faults_from (in_regions guest) name_of (λ row node. region_causes areas node) 0 nodes in
    let tells = subst (λ (name : List ℕ). Tells (path_text (in_regions guest ++ name ∷ []), c.in-Some.cause) c.inner_fault.result) c.as_slice.ensures c.inner_fault.ensures in
    let first = fault_here (in_regions guest) name_of (λ row node. region_causes areas node) nodes c.loop-row.row node faults c.in-Some.cause c.loop-row-test.true c.index-nodes-row.is (sym c.in-Some.ensures) c.loop-row.invariant.faults in
    told_reading faults (region_plans areas (Some c.args.aspace.now) nodes) (path_text (in_regions guest ++ name_of node ∷ []), c.in-Some.cause) c.inner_fault.result first tells

pub loop-row-preserved : goal.loop-row-preserved
loop-row-preserved c =
    let guest = c.args.guest.now in
    let nodes = c.args.nodes.now in
    let node = c.index-nodes-row.result in
    let areas = c.args.areas.now in
    let faults = faults_from (in_regions guest) name_of (λ row node. region_causes areas node) 0 nodes in
    let none = none_first (region_causes areas node) (sym c.in_default.ensures) in
    record {
      faults = pass_one (in_regions guest) name_of (λ row node. region_causes areas node) nodes c.loop-row.row node faults c.loop-row-test.true c.index-nodes-row.is none c.loop-row.invariant.faults;
      made = row_more (region_plan areas (Some c.args.aspace.now) nodes) nodes c.loop-row.row node c.in_ok-plan.plan c.loop-row.plans.items c.push.new.self.items (region_plans areas (Some c.args.aspace.now) nodes) c.loop-row-test.true c.index-nodes-row.is c.in_ok-plan.ensures c.in_ok-push.ensures.items c.loop-row.invariant.made;
    }
