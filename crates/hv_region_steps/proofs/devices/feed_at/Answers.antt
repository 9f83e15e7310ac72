use Rattle.std.proofs.Common.{◌≡◌, Some, refl, ap}
use Rattle.std.specs.Prelude.{Err}
use Rattle.hv_answer.specs.declared.reply.Reply.TheVariants as replies
use Rattle.hv_body.specs.Body.{seen}
use Rattle.hv_event.specs.declared.event.CellId.TheVariants as component
use Rattle.hv_handed.specs.Given.{given}
use Rattle.hv_parts.specs.Value.{valued}
use Rattle.hv_parts.specs.declared.part.Part.TheVariants as part
use Rattle.hv_step.specs.declared.step.Step.TheVariants as steps
use Rattle.hv_handed.proofs.Learnt.{alone-as, told-as}
use Rattle.hv_kinds.specs.declared.stage.Stage.TheVariants.{Made}
use Rattle.hv_parts.proofs.Directories.{second-takes}
use Rattle.hv_rules.specs.Body.{parent_of}
use Rattle.hv_rules.specs.Carry.{Carry, nothing}
use Rattle.hv_rules.specs.Dir.{guest_in}
use Rattle.hv_region_steps.proofs.Admitted.{region-admits, row-touched}
use Rattle.hv_region_steps.proofs.devices.feed_at.Goals as goal

pub returns-clause-made : goal.returns-clause-made
returns-clause-made g c =
    λ harts by.
    let f = valued g.E.Emulator.state in
    let s = c.args.step.now in
    let r = c.feed-reply.result.0 in
    let k : Carry = given g.E.Emulator.state c.feed-reply.result.1.value in
    let carry : Carry = record nothing { row = Some c.args.row; parent = parent_of (seen g.E.Emulator.state c.body_mut-body.result.now) } in
    let has : k.row ≡ Some c.args.row = ap (λ (o : Carry). o.row) c.feed-reply.ensures.handed in
    record {
      touched = row-touched s.generation k.row c.args.row has;
      taken =
          second-takes f by (steps.Feed s) r k s.name Made s.generation (λ guest. component.Body guest.slot c.args.row) c.args.parts.now
          c.index-parts-1.result (part.Body c.body_mut-body.result.now) (part.Body c.feed-reply.new.body) (
          λ d there is.
          record { agrees = region-admits (guest_in d s.name Made) k.row c.args.row s.generation (λ why. replies.Feed (Err why)) r k has there is; after = refl }
          ) c.requires.admitted c.requires.parts c.body_mut-body.ensures.value (λ guest. c.feed-reply.ensures.body);
      alone = alone-as (steps.Feed s) k carry c.feed-reply.ensures.handed refl;
      told = told-as k carry _ c.feed-reply.ensures.handed (c.told_parent-told.ensures c.args.row);
    }
