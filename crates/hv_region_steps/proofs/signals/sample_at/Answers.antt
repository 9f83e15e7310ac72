use Rattle.std.proofs.Common.{List, [], ◌++◌, map, slice_set, refl, sym, subst}
use Rattle.std.specs.Prelude.{min, max}
use Rattle.hv_event.specs.declared.event.CellId.{CellId}
use Rattle.hv_event.specs.declared.event.CellId.TheVariants as component
use Rattle.hv_handed.specs.Given.{given}
use Rattle.hv_parts.specs.Value.{valued}
use Rattle.hv_parts.specs.declared.part.Part.TheVariants as part
use Rattle.hv_step.specs.declared.step.Step.TheVariants as steps
use Rattle.hv_handed.proofs.Learnt.{alone-as, told-as}
use Rattle.hv_parts.proofs.Lists.{two-take, no-others}
use Rattle.hv_parts.specs.Kinds.{AreOf}
use Rattle.hv_parts.specs.Takes.{AllTake}
use Rattle.hv_rules.specs.Carry.{Carry, nothing}
use Rattle.hv_region_steps.proofs.Carried.{in-order}
use Rattle.hv_region_steps.proofs.signals.sample_at.Goals as goal

pub returns : goal.returns
returns g c =
    λ harts by.
    let f = valued g.E.Emulator.state in
    let s = c.args.step in
    let r = c.sample-reply.result.0 in
    let k : Carry = given g.E.Emulator.state c.sample-reply.result.1.value in
    let ordered = in-order s.generation s.row s.parent in
    record {
      touched = refl;
      taken =
          subst (λ (xs : List CellId). AllTake by xs (steps.Sample s) r k (map f c.args.parts.now) (map f (slice_set c.split_at_mut-front.result.0.now 0 (part.Body c.sample-reply.new.first) ++ slice_set c.split_at_mut-front.result.1.now 0 (part.Body c.sample-reply.new.second)))) (sym ordered) (
          two-take f by (steps.Sample s) r k (component.Body s.generation.slot (min s.row s.parent)) (component.Body s.generation.slot (max s.row s.parent)) [] c.args.parts.now
          c.split_at_mut-front.result.0.now c.split_at_mut-front.result.1.now c.index-front-0.result c.index-back-0.result (part.Body c.body_mut.result.now)
          (part.Body c.body_mut-2.result.now) (part.Body c.sample-reply.new.first) (part.Body c.sample-reply.new.second)
          (subst (λ (xs : List CellId). AreOf xs (map f c.args.parts.now)) ordered c.requires.parts) c.split_at_mut-front.ensures.value
          c.split_at_mut-front.ensures.front_len c.body_mut.ensures.value c.body_mut-2.ensures.value c.sample-reply.ensures.first c.sample-reply.ensures.second
          (λ p q rest is are. no-others f by (steps.Sample s) r k p q rest are)
          );
      alone = alone-as (steps.Sample s) k nothing c.sample-reply.ensures.alone refl;
      told = told-as k nothing _ c.sample-reply.ensures.alone c.nothing.ensures;
    }
