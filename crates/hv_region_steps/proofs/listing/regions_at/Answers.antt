use Rattle.std.proofs.Common.{refl}
use Rattle.std.specs.Prelude.{Err}
use Rattle.hv_answer.specs.declared.reply.Reply.TheVariants as replies
use Rattle.hv_event.specs.declared.event.CellId.TheVariants as component
use Rattle.hv_handed.specs.Given.{given}
use Rattle.hv_parts.specs.Value.{valued}
use Rattle.hv_parts.specs.declared.part.Part.TheVariants as part
use Rattle.hv_step.specs.declared.step.Step.TheVariants as steps
use Rattle.hv_handed.proofs.Learnt.{alone-as, told-as}
use Rattle.hv_kinds.specs.declared.stage.Stage.TheVariants.{Made}
use Rattle.hv_parts.proofs.Directories.{admits, second-reads}
use Rattle.hv_rules.specs.Carry.{Carry, nothing}
use Rattle.hv_rules.specs.Dir.{guest_in}
use Rattle.hv_region_steps.proofs.listing.regions_at.Goals as goal

pub returns : goal.returns
returns g c =
    λ harts by.
    let f = valued g.E.Emulator.state in
    let s = c.args.step.now in
    let r = c.in_ok-made.made.0 in
    let k : Carry = given g.E.Emulator.state c.in_ok-made.made.1.value in
    record {
      touched = refl;
      taken =
          second-reads f by (steps.Regions s) r k s.name Made s.generation (λ guest. component.Space guest.slot) c.args.parts.now c.index-parts-1.result
          (part.Space c.space.result.now)
          (λ d there is. record { agrees = admits (guest_in d s.name Made) s.generation (λ why. replies.Regions (Err why)) r k there is; after = refl })
          c.requires.admitted c.requires.parts c.index-parts-1.is c.space.ensures (λ guest. c.in_ok-made.ensures.space s);
      alone = alone-as (steps.Regions s) k nothing c.in_ok-made.ensures.handed refl;
      told = told-as k nothing _ c.in_ok-made.ensures.handed c.nothing.ensures;
    }
