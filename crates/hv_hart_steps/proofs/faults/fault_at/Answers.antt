use Rattle.std.proofs.Common.{refl}
use Rattle.hv_event.specs.declared.event.ActorId.TheVariants.{Hart}
use Rattle.hv_event.specs.declared.event.CellId.TheVariants as component
use Rattle.hv_handed.specs.Given.{given}
use Rattle.hv_handed.proofs.Learnt.{untold}
use Rattle.hv_parts.specs.Value.{valued}
use Rattle.hv_parts.specs.declared.part.Part.TheVariants as part
use Rattle.hv_step.specs.declared.step.Step.TheVariants as steps
use Rattle.hv_hart_steps.proofs.Spaces.{second-takes, faults-first}
use Rattle.hv_hart_steps.proofs.faults.fault_at.Goals as goal

pub returns : goal.returns
returns g c =
    λ harts.
    record {
      touched = refl;
      taken =
          second-takes (valued g.E.Emulator.state) (Hart c.args.hart) (steps.Fault c.args.step) c.in-Some.reply (given g.E.Emulator.state c.in-Some.handed.value)
          (component.Space c.args.step.generation.slot) (component.Vcpu c.args.step.vcpu) c.args.parts.now c.split_at_mut-back.result.0.now c.split_at_mut-back.result.1.now
          c.index-back-0.result (part.Vcpu c.vcpu_mut.result.now) (part.Vcpu c.fault.new.vcpu) c.requires.parts c.split_at_mut-back.ensures.value c.split_at_mut-back.ensures.front_len
          c.vcpu_mut.ensures.value
          (λ p alone. faults-first (valued g.E.Emulator.state) (Hart c.args.hart) c.args.step.generation.slot c.args.step c.in-Some.reply (given g.E.Emulator.state c.in-Some.handed.value) (component.Vcpu c.args.step.vcpu) c.args.parts.now c.split_at_mut-back.result.0.now c.split_at_mut-back.result.1.now c.requires.parts c.requires.outside c.split_at_mut-back.ensures.value p alone)
          c.in-Some.ensures.vcpu;
      alone = c.in-Some.ensures.handed;
      told = untold _ _ _ c.in-Some.ensures.handed (refl, refl, refl, refl, refl) c.nothing.ensures;
    }
