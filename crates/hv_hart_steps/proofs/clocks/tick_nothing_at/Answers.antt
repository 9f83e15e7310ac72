use Rattle.std.proofs.Common.{◌∷◌, refl, ap}
use Rattle.hv_event.specs.declared.event.CellId.TheVariants as component
use Rattle.hv_handed.specs.Given.{given}
use Rattle.hv_handed.proofs.Learnt.{alone-as, told-as}
use Rattle.hv_parts.specs.Value.{valued}
use Rattle.hv_parts.specs.declared.part.Part.TheVariants as part
use Rattle.hv_parts.proofs.Lists.{one-reads}
use Rattle.hv_rules.specs.Carry.{Carry, nothing}
use Rattle.hv_rules.specs.Footprint.{clock_body}
use Rattle.hv_step.specs.declared.step.Step.TheVariants as steps
use Rattle.hv_hart_steps.proofs.clocks.tick_nothing_at.Goals as goal

pub returns : goal.returns
returns g c =
    λ harts by.
    record {
      touched = ap (λ (k : Carry). component.Space c.args.step.slot ∷ clock_body c.args.step.slot k.clock) c.tick_nothing-reply.ensures.alone;
      taken =
          one-reads (valued g.E.Emulator.state) by (steps.Tick c.args.step) c.tick_nothing-reply.result.0 (given g.E.Emulator.state c.tick_nothing-reply.result.1.value) (component.Space c.args.step.slot) c.args.parts.now c.index-parts-0.result
          (part.Space c.space.result.now) c.requires.parts c.index-parts-0.is c.space.ensures (c.tick_nothing-reply.ensures.space c.args.step);
      alone = alone-as (steps.Tick c.args.step) _ nothing c.tick_nothing-reply.ensures.alone refl;
      told = told-as _ nothing _ c.tick_nothing-reply.ensures.alone c.nothing.ensures;
    }
