use Rattle.std.proofs.Common.{◌≡◌, [], ◌∷◌, slice_index_or, refl, subst, ◌∙◌}
use Rattle.hv_event.specs.declared.event.CellId.TheVariants as component
use Rattle.hv_handed.specs.Given.{given}
use Rattle.hv_parts.specs.Value.{valued}
use Rattle.hv_parts.specs.declared.part.Part.TheVariants as part
use Rattle.hv_step.specs.declared.step.Step.TheVariants as steps
use Rattle.hv_handed.proofs.Learnt.{untold}
use Rattle.hv_parts.proofs.Lists.{two-take, one-reads}
use Rattle.hv_rules.specs.Carry.{Carry}
use Rattle.hv_rules.specs.Footprint.{home_queue}
use Rattle.hv_region_steps.proofs.Carried.{shows-pins}
use Rattle.hv_region_steps.proofs.signals.pin_at.Goals as goal

pub returns : goal.returns
returns g c =
    λ by.
    let f = valued g.E.Emulator.state in
    let s = c.args.step in
    let r = c.pin-reply.result.0 in
    let k : Carry = given g.E.Emulator.state c.pin-reply.result.1.value in
    let shown = c.pins_shown-pins.ensures.body s.row r k (shows-pins c.pins_shown-pins.result c.vcpu_mut.result.now s.row s.generation.birth r k (c.pin-reply.ensures.vcpu by).agrees c.pin-reply.ensures.pins) in
    record {
      touched = refl;
      taken =
          two-take f by (steps.Pin s) r k (home_queue c.args.harts s.vcpu) (component.Vcpu s.vcpu) (component.Body s.generation.slot s.row ∷ []) c.args.parts.now
          c.split_at_mut-front.result.0.now c.split_at_mut-front.result.1.now c.index-front-0.result c.index-back-0.result (part.Queue c.queue_mut.result.now)
          (part.Vcpu c.vcpu_mut.result.now) (part.Queue c.pin-reply.new.home) (part.Vcpu c.pin-reply.new.vcpu) c.requires.parts
          c.split_at_mut-front.ensures.value c.split_at_mut-front.ensures.front_len c.queue_mut.ensures.value c.vcpu_mut.ensures.value
          (c.pin-reply.ensures.queue _) (c.pin-reply.ensures.vcpu by)
          (λ p q rest is are. one-reads f by (steps.Pin s) r k (component.Body s.generation.slot s.row) rest c.index-parts-2.result (part.Body c.body.result.now) are (subst (λ l. c.index-parts-2.result ≡ slice_index_or l 2 c.index-parts-2.result) is c.index-parts-2.is) (c.index-parts-2.is ∙ c.body.ensures) shown);
      alone = c.pin-reply.ensures.handed;
      told = untold _ _ _ c.pin-reply.ensures.handed (refl, refl, refl, refl, refl) c.nothing.ensures;
    }
