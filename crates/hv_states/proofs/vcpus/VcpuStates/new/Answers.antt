use Rattle.std.proofs.Common.{arith, length-append}
use Rattle.hv_model.specs.States.{first_states}
use Rattle.hv_states.proofs.Told.{map-pushed}
use Rattle.hv_states.proofs.vcpus.VcpuStates.new.Goals as goal

pub loop-vcpu-preserved : goal.loop-vcpu-preserved
loop-vcpu-preserved c = record {
  count = grind (arith, c.push.ensures, c.in_ok-push.ensures, c.loop-vcpu.invariant.count, length-append);
  states =
      rw c.in_ok-push.ensures.items
      (map-pushed (λ states. states.items) first_states c.loop-vcpu.lists.items c.in_ok-first_states.field-0 c.loop-vcpu.vcpu c.loop-vcpu.invariant.states c.in_ok-first_states.ensures);
}
