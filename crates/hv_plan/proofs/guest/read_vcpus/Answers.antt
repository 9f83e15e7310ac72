use Rattle.std.proofs.Common.{ℕ, List, [], ◌∷◌, ◌++◌, map, subst}
use Rattle.hv_text.specs.Path.{path_text}
use Rattle.hv_dtree.specs.Nodes.{name_of}
use Rattle.hv_plan.specs.Vcpus.{vcpu_causes, vcpu_plan}
use Rattle.hv_plan.specs.Guests.{faults_from, in_vcpus}
use Rattle.hv_plan.specs.Reading.{Tells}
use Rattle.hv_plan.proofs.Faults.{fault_here, told_reading}
use Rattle.hv_plan.proofs.guest.read_vcpus.Goals as goal

pub returns-in-Err : goal.returns-in-Err
returns-in-Err c =
    let guest = c.args.guest.now in
    let nodes = c.args.nodes.now in
    let node = c.index-nodes-row.result in
    let faults = faults_from (in_vcpus guest) name_of (λ row node. vcpu_causes node) 0 nodes in
    let tells = subst (λ (name : List ℕ). Tells (path_text (in_vcpus guest ++ name ∷ []), c.in-Err.cause) c.inner_fault.result) c.as_slice.ensures c.inner_fault.ensures in
    let first = fault_here (in_vcpus guest) name_of (λ row node. vcpu_causes node) nodes c.loop-row.row node faults c.in-Err.cause c.loop-row-test.true c.index-nodes-row.is c.in-Err.ensures c.loop-row.invariant.faults in
    told_reading faults (map vcpu_plan nodes) (path_text (in_vcpus guest ++ name_of node ∷ []), c.in-Err.cause) c.inner_fault.result first tells
