use Rattle.std.proofs.Common.{◌≡◌, ◌∷◌, slice_index_or, refl, ap, sym, subst, ◌∙◌, Some}
use Rattle.std.specs.Option.{option_map}
use Rattle.hv_event.specs.declared.event.CellId.TheVariants as component
use Rattle.hv_handed.specs.Given.{given}
use Rattle.hv_handed.proofs.Learnt.{alone-as, told-as}
use Rattle.hv_parts.specs.Takes.{PartTakes}
use Rattle.hv_parts.specs.Value.{valued}
use Rattle.hv_parts.specs.declared.part.Part.TheVariants as part
use Rattle.hv_rules.specs.Carry.{Carry}
use Rattle.hv_rules.specs.Footprint.{clock_body}
use Rattle.hv_step.specs.declared.step.Step.TheVariants as steps
use Rattle.hv_hart_steps.proofs.Spaces.{second-takes, space-first, clock-body, clock-carry}
use Rattle.hv_hart_steps.proofs.clocks.tick_at.Goals as goal

pub returns : goal.returns
returns g c =
    let f = valued g.E.Emulator.state in
    let handed : Carry = given g.E.Emulator.state c.tick-reply.result.1.value in
    let row = space-first g.E.Emulator.state (λ space. option_map (λ clock. clock.0) space.clock ≡ Some c.args.row) c.args.parts.now c.split_at_mut-front.result.0.now c.split_at_mut-front.result.1.now c.index-front-0.result c.space-space.result.now
    c.requires.clock c.split_at_mut-front.ensures.value c.split_at_mut-front.ensures.front_len c.space-space.ensures in
    λ harts by.
    record {
      touched =
          ap (λ (k : Carry). component.Space c.args.step.slot ∷ clock_body c.args.step.slot k.clock) c.tick-reply.ensures.alone
          ∙ ap (λ l. component.Space c.args.step.slot ∷ l) (clock-body c.args.step.slot c.args.row c.space-space.result.now.clock row);
      taken =
          second-takes f by (steps.Tick c.args.step) c.tick-reply.result.0 handed
          (component.Space c.args.step.slot) (component.Body c.args.step.slot c.args.row) c.args.parts.now c.split_at_mut-front.result.0.now c.split_at_mut-front.result.1.now
          c.index-back-0.result (part.Body c.body_mut-body.result.now) (part.Body c.tick-reply.new.body) c.requires.parts c.split_at_mut-front.ensures.value c.split_at_mut-front.ensures.front_len
          c.body_mut-body.ensures.value
          (λ p alone. subst (λ t. PartTakes by (component.Space c.args.step.slot) (steps.Tick c.args.step) c.tick-reply.result.0 handed (f t) (f t))
          (sym c.space-space.ensures ∙ ap (λ l. slice_index_or l 0 c.index-front-0.result) alone) (c.tick-reply.ensures.space c.args.step))
          (c.tick-reply.ensures.body c.args.row c.args.step);
      alone = alone-as (steps.Tick c.args.step) _ _ c.tick-reply.ensures.alone refl;
      told = told-as _ _ _ (c.tick-reply.ensures.alone ∙ clock-carry _ _ _ _ c.clock.ensures c.parent_of.ensures) c.tell_clock-told.ensures;
    }
