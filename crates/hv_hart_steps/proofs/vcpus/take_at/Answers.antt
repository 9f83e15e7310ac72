use Rattle.std.proofs.Common.{refl}
use Rattle.hv_event.specs.declared.event.ActorId.TheVariants.{Hart}
use Rattle.hv_event.specs.declared.event.CellId.TheVariants as component
use Rattle.hv_handed.specs.Given.{given}
use Rattle.hv_handed.proofs.Learnt.{untold}
use Rattle.hv_parts.specs.Value.{valued}
use Rattle.hv_parts.specs.declared.part.Part.TheVariants as part
use Rattle.hv_parts.proofs.Lists.{one-takes}
use Rattle.hv_step.specs.declared.step.Step.TheVariants as steps
use Rattle.hv_hart_steps.proofs.vcpus.take_at.Goals as goal

pub returns : goal.returns
returns g c =
    λ harts.
    record {
      touched = refl;
      taken =
          one-takes (valued g.E.Emulator.state) (Hart c.args.hart) (steps.Take c.args.step) c.in-Some.reply (given g.E.Emulator.state c.in-Some.handed.value) (component.Vcpu c.args.step.vcpu) c.args.parts.now c.index-parts-0.result
          (part.Vcpu c.vcpu_mut.result.now) (part.Vcpu c.take.new.vcpu) c.requires.parts c.vcpu_mut.ensures.value c.in-Some.ensures.vcpu;
      alone = c.in-Some.ensures.handed;
      told = untold _ _ _ c.in-Some.ensures.handed (refl, refl, refl, refl, refl) c.nothing.ensures;
    }
