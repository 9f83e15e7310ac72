use Rattle.std.proofs.Common.{refl}
use Rattle.hv_event.specs.declared.event.CellId.TheVariants as component
use Rattle.hv_handed.specs.Given.{given}
use Rattle.hv_parts.specs.declared.part.Part.TheVariants as part
use Rattle.hv_parts.specs.Value.{valued}
use Rattle.hv_step.specs.declared.step.Step.TheVariants as steps
use Rattle.hv_parts.proofs.Lists.{one-takes}
use Rattle.hv_handed.proofs.Learnt.{untold}
use Rattle.hv_terminal_steps.proofs.vcpus.vadd_at.Goals as goal

pub returns-clause-made : goal.returns-clause-made
returns-clause-made g c =
    λ harts by.
    record {
      touched = refl;
      taken =
          one-takes (valued g.E.Emulator.state) by (steps.Vadd c.args.step) c.vadd-reply.result.0 (given g.E.Emulator.state c.vadd-reply.result.1.value) (component.Vcpu c.args.step.vcpu) c.args.parts.now c.index-parts-0.result (part.Vcpu c.vcpu_mut.result.now) (part.Vcpu c.vadd-reply.new.vcpu) c.requires.parts c.vcpu_mut.ensures.value
          (c.vadd-reply.ensures.vcpu by);
      alone = c.vadd-reply.ensures.handed;
      told = untold _ _ _ c.vadd-reply.ensures.handed (refl, refl, refl, refl, refl) c.nothing.ensures;
    }
