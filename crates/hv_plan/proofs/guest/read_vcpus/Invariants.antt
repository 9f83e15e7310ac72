use Rattle.std.proofs.Common.{◌≡◌, ◌++◌, drop, map}
use Rattle.hv_dtree.specs.Nodes.{name_of}
use Rattle.hv_plan.specs.Vcpus.{vcpu_causes, vcpu_plan}
use Rattle.hv_plan.specs.Guests.{faults_from, in_vcpus}
use Rattle.hv_plan.proofs.guest.read_vcpus.Given as goal

abbrev pub invariant-loop-row : goal.invariant-loop-row
invariant-loop-row l = record {
  faults : faults_from (in_vcpus l.guest) name_of (λ row node. vcpu_causes node) l.row (drop l.row l.nodes) ≡ faults_from (in_vcpus l.guest) name_of (λ row node. vcpu_causes node) 0 l.nodes;
  made : l.plans.items ++ map vcpu_plan (drop l.row l.nodes) ≡ map vcpu_plan l.nodes;
}
