use Rattle.std.proofs.Common.{refl}
use Rattle.hv_event.specs.declared.event.CellId.TheVariants as component
use Rattle.hv_handed.specs.Given.{given}
use Rattle.hv_parts.specs.Value.{valued}
use Rattle.hv_parts.specs.declared.part.Part.TheVariants as part
use Rattle.hv_step.specs.declared.step.Step.TheVariants as steps
use Rattle.hv_parts.proofs.Lists.{one-reads}
use Rattle.hv_handed.proofs.Learnt.{untold}
use Rattle.hv_terminal_steps.proofs.vcpus.look_at.Goals as goal

pub returns : goal.returns
returns g c =
    λ harts by.
    record {
      touched = refl;
      taken =
          one-reads (valued g.E.Emulator.state) by (steps.Look c.args.step) c.in_ok-made.made.0 (given g.E.Emulator.state c.in_ok-made.made.1.value) (component.Vcpu c.args.step.vcpu) c.args.parts.now c.index-parts-0.result
          (part.Vcpu c.vcpu.result.now) c.requires c.index-parts-0.is c.vcpu.ensures (c.in_ok-made.ensures.vcpu by);
      alone = c.in_ok-made.ensures.handed;
      told = untold _ _ _ c.in_ok-made.ensures.handed (refl, refl, refl, refl, refl) c.nothing.ensures;
    }
