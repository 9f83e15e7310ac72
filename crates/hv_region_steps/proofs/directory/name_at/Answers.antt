use Rattle.std.proofs.Common.{ℕ, List, refl, sym, subst}
use Rattle.hv_event.specs.declared.event.CellId.TheVariants as component
use Rattle.hv_handed.specs.Given.{given}
use Rattle.hv_parts.specs.Value.{valued}
use Rattle.hv_parts.specs.declared.part.Part.TheVariants as part
use Rattle.hv_step.specs.declared.step.Step.TheVariants as steps
use Rattle.hv_handed.proofs.Learnt.{alone-as, untold}
use Rattle.hv_handed.specs.Takes.{DirTakes}
use Rattle.hv_parts.proofs.Lists.{one-takes}
use Rattle.hv_rules.specs.Carry.{Carry, nothing}
use Rattle.hv_region_steps.proofs.directory.name_at.Goals as goal

pub returns-clause-made : goal.returns-clause-made
returns-clause-made g c =
    λ harts by.
    let f = valued g.E.Emulator.state in
    let r = c.in_ok-made.made.0 in
    let k : Carry = given g.E.Emulator.state c.in_ok-made.made.1.value in
    record {
      touched = refl;
      taken =
          one-takes f by (steps.Name c.args.step.now) r k component.Dir c.args.parts.now c.index-parts-0.result
          (part.Dir c.directory_mut.result.now) (part.Dir c.name.new.dir) c.requires c.directory_mut.ensures.value
          (subst (λ (n : List ℕ). DirTakes (steps.Name (record { name = n })) r k c.directory_mut.result.now c.name.new.dir) c.as_slice-named.ensures
          c.in_ok-made.ensures.dir);
      alone = alone-as (steps.Name c.args.step.now) k (record nothing { stopped = c.args.stopped }) c.in_ok-made.ensures.handed refl;
      told = untold k (record nothing { stopped = c.args.stopped }) _ (sym c.in_ok-made.ensures.handed) (refl, refl, refl, refl, refl) c.nothing.ensures;
    }
