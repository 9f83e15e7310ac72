use Rattle.std.proofs.Common.{◌≡◌, length, map}
use Rattle.std.specs.List.{range_with_len}
use Rattle.hv_model.specs.States.{first_states}
use Rattle.hv_states.proofs.vcpus.VcpuStates.new.Given as goal

abbrev pub invariant-loop-vcpu : goal.invariant-loop-vcpu
invariant-loop-vcpu l = record {
  count : length l.lists.items ≡ l.vcpu;
  states : map (λ states. states.items) l.lists.items ≡ map first_states (range_with_len 0 l.vcpu);
}
