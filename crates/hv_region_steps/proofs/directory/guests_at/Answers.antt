use Rattle.std.proofs.Common.{refl}
use Rattle.hv_event.specs.declared.event.CellId.TheVariants as component
use Rattle.hv_handed.specs.Given.{given}
use Rattle.hv_parts.specs.Value.{valued}
use Rattle.hv_parts.specs.declared.part.Part.TheVariants as part
use Rattle.hv_step.specs.declared.step.Step.TheVariants as steps
use Rattle.hv_handed.proofs.Learnt.{alone-as, told-as}
use Rattle.hv_parts.proofs.Lists.{one-reads}
use Rattle.hv_rules.specs.Carry.{nothing}
use Rattle.hv_region_steps.proofs.directory.guests_at.Goals as goal

pub returns : goal.returns
returns g c =
    λ harts by.
    record {
      touched = refl;
      taken =
          one-reads (valued g.E.Emulator.state) by (steps.Guests c.args.step) c.in_ok-made.made.0 (given g.E.Emulator.state c.in_ok-made.made.1.value) component.Dir c.args.parts.now c.index-parts-0.result
          (part.Dir c.directory.result.now) c.requires c.index-parts-0.is c.directory.ensures (c.in_ok-made.ensures.dir c.args.step);
      alone = alone-as (steps.Guests c.args.step) _ nothing c.in_ok-made.ensures.handed refl;
      told = told-as _ nothing _ c.in_ok-made.ensures.handed c.nothing.ensures;
    }
