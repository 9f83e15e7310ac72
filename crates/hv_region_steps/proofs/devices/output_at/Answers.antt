use Rattle.std.proofs.Common.{◌≡◌, Some, refl, sym, ap}
use Rattle.std.specs.Prelude.{Err}
use Rattle.hv_answer.specs.declared.reply.Reply.TheVariants as replies
use Rattle.hv_event.specs.declared.event.CellId.TheVariants as component
use Rattle.hv_handed.specs.Given.{given}
use Rattle.hv_parts.specs.Value.{valued}
use Rattle.hv_parts.specs.declared.part.Part.TheVariants as part
use Rattle.hv_step.specs.declared.step.Step.TheVariants as steps
use Rattle.hv_handed.proofs.Learnt.{alone-as, untold}
use Rattle.hv_kinds.specs.declared.stage.Stage.TheVariants.{Made}
use Rattle.hv_parts.proofs.Directories.{second-reads}
use Rattle.hv_rules.specs.Carry.{Carry, nothing}
use Rattle.hv_rules.specs.Dir.{guest_in}
use Rattle.hv_region_steps.proofs.Admitted.{region-admits, row-touched}
use Rattle.hv_region_steps.proofs.devices.output_at.Goals as goal

pub returns-clause-made : goal.returns-clause-made
returns-clause-made g c =
    λ harts by.
    let f = valued g.E.Emulator.state in
    let s = c.args.step.now in
    let r = c.in_ok-made.made.0 in
    let k : Carry = given g.E.Emulator.state c.in_ok-made.made.1.value in
    let carry : Carry = record nothing { row = Some c.args.row } in
    let has : k.row ≡ Some c.args.row = ap (λ (o : Carry). o.row) c.in_ok-made.ensures.handed in
    record {
      touched = row-touched s.generation k.row c.args.row has;
      taken =
          second-reads f by (steps.Output s) r k s.name Made s.generation (λ guest. component.Body guest.slot c.args.row) c.args.parts.now
          c.index-parts-1.result (part.Body c.body.result.now) (
          λ d there is.
          record { agrees = region-admits (guest_in d s.name Made) k.row c.args.row s.generation (λ why. replies.Output (Err why)) r k has there is; after = refl }
          ) c.requires.admitted c.requires.parts c.index-parts-1.is c.body.ensures (λ guest. c.in_ok-made.ensures.body s);
      alone = alone-as (steps.Output s) k carry c.in_ok-made.ensures.handed refl;
      told = untold k carry _ (sym c.in_ok-made.ensures.handed) (refl, refl, refl, refl, refl) c.nothing.ensures;
    }
