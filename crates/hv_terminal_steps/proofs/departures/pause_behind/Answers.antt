use Rattle.std.proofs.Common.{List, ◌∷◌, ◌++◌, [], map, slice_set, refl, sym, subst}
use Rattle.hv_event.specs.declared.event.CellId.TheVariants as component
use Rattle.hv_handed.specs.Given.{given}
use Rattle.hv_parts.specs.Kinds.{AreOf, IsPartOf}
use Rattle.std.specs.Prelude.{All}
use Rattle.hv_parts.specs.Takes.{AllTake}
use Rattle.hv_parts.specs.Value.{valued}
use Rattle.hv_parts.specs.declared.part.Part.TheVariants as part
use Rattle.hv_rules.specs.Footprint.{all_queues}
use Rattle.hv_step.specs.declared.step.Step.TheVariants as steps
use Rattle.hv_parts.proofs.Lists.{one-takes, queues-take, vcpu-is}
use Rattle.hv_handed.proofs.Learnt.{untold}
use Rattle.hv_terminal_steps.proofs.departures.pause_behind.Goals as goal

pub vcpu_mut-requires : goal.vcpu_mut-requires
vcpu_mut-requires g c =
    vcpu-is (valued g.E.Emulator.state) c.args.step.now.vcpu c.split_at_mut-queues.result.1.now c.index-places-0.result
    (subst (λ l. AreOf (component.Vcpu c.args.step.now.vcpu ∷ []) (map (valued g.E.Emulator.state) l)) (sym c.split_at_mut-queues.ensures.back) c.requires.vcpu)

pub leave_queues-requires : goal.leave_queues-requires
leave_queues-requires g c =
    subst (λ l. All (λ place. IsPartOf (component.Queue 0) (valued g.E.Emulator.state place)) l) (sym c.split_at_mut-queues.ensures.front) c.requires.queues

pub returns : goal.returns
returns g c = record {
  taken =
      λ by.
      subst (λ (l : List _). AllTake by (all_queues c.args.harts ++ component.Vcpu c.args.step.now.vcpu ∷ []) (steps.Pause c.args.step.now) c.pause-reply.result.0 (given g.E.Emulator.state c.pause-reply.result.1.value) (map (valued g.E.Emulator.state) l) (map (valued g.E.Emulator.state) (c.leave_queues.new.queues ++ slice_set c.split_at_mut-queues.result.1.now 0 (part.Vcpu c.pause-reply.new.vcpu)))) (sym c.split_at_mut-queues.ensures.value)
      (queues-take (valued g.E.Emulator.state) by (steps.Pause c.args.step.now) c.pause-reply.result.0 (given g.E.Emulator.state c.pause-reply.result.1.value) c.args.harts 0 (component.Vcpu c.args.step.now.vcpu ∷ []) c.split_at_mut-queues.result.0.now
      c.leave_queues.new.queues c.split_at_mut-queues.result.1.now (slice_set c.split_at_mut-queues.result.1.now 0 (part.Vcpu c.pause-reply.new.vcpu)) c.split_at_mut-queues.ensures.front_len c.leave_queues.ensures.long
      (λ k d within hart. c.leave_queues.ensures.each k d within by hart (steps.Pause c.args.step.now) (given g.E.Emulator.state c.pause-reply.result.1.value) (refl, _, (c.pause-reply.ensures.vcpu by).agrees))
      (one-takes (valued g.E.Emulator.state) by (steps.Pause c.args.step.now) c.pause-reply.result.0 (given g.E.Emulator.state c.pause-reply.result.1.value) (component.Vcpu c.args.step.now.vcpu) c.split_at_mut-queues.result.1.now c.index-places-0.result (part.Vcpu c.vcpu_mut.result.now) (part.Vcpu c.pause-reply.new.vcpu)
      (subst (λ l. AreOf (component.Vcpu c.args.step.now.vcpu ∷ []) (map (valued g.E.Emulator.state) l)) (sym c.split_at_mut-queues.ensures.back) c.requires.vcpu) c.vcpu_mut.ensures.value (c.pause-reply.ensures.vcpu by)));
  alone = c.pause-reply.ensures.handed;
  told = untold _ _ _ c.pause-reply.ensures.handed (refl, refl, refl, refl, refl) c.nothing.ensures;
}
