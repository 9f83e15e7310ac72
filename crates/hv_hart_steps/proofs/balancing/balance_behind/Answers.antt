use Rattle.std.proofs.Common.{List, ◌∷◌, ◌++◌, [], map, slice_index_or, refl, ap, sym, subst, ◌∙◌}
use Rattle.hv_answer.specs.declared.reply.Reply.{Reply}
use Rattle.hv_answer.specs.declared.reply.Reply.TheVariants as replies
use Rattle.hv_event.specs.declared.event.ActorId.TheVariants.{Hart}
use Rattle.hv_event.specs.declared.event.CellId.TheVariants as component
use Rattle.hv_handed.specs.Given.{given}
use Rattle.hv_handed.proofs.Learnt.{untold}
use Rattle.hv_parts.specs.Kinds.{AreOf}
use Rattle.hv_parts.specs.Takes.{AllTake, PartTakes}
use Rattle.hv_parts.specs.Value.{valued}
use Rattle.hv_parts.specs.declared.part.Part.TheVariants as part
use Rattle.hv_parts.proofs.Lists.{one-reads}
use Rattle.hv_rules.specs.Balance.{told_move}
use Rattle.hv_rules.specs.Footprint.{all_queues}
use Rattle.hv_step.specs.declared.step.Step.TheVariants as steps
use Rattle.hv_hart_steps.proofs.Moving.{all-queues-take}
use Rattle.hv_hart_steps.proofs.balancing.balance_behind.Goals as goal

pub returns-clause-made : goal.returns-clause-made
returns-clause-made g c =
    let f = valued g.E.Emulator.state in
    let by = Hart c.args.hart in
    let s = steps.Balance c.args.step in
    let handed = given g.E.Emulator.state c.in-Some.handed.value in
    let old = c.split_at_mut-queues.result.0.now in
    let new = c.balance_queues.new.queues in
    let places = c.split_at_mut-queues.result.1.now in
    record {
      touched = refl;
      taken =
          subst (λ (l : List _). AllTake by (all_queues c.args.harts ++ component.Vcpu 0 ∷ []) s c.in-Some.reply handed (map f l) (map f (new ++ places))) (sym c.split_at_mut-queues.ensures.value)
          (all-queues-take f by s c.in-Some.reply handed c.args.harts (component.Vcpu 0 ∷ []) old new places places c.split_at_mut-queues.ensures.front_len c.balance_queues.ensures.long
          (λ k d within. subst (λ (r : Reply). PartTakes by (component.Queue k) s r handed (f (slice_index_or old k d)) (f (slice_index_or new k d))) (ap (λ l. replies.Balance (told_move l c.entry_moved-moved.result)) c.deref-2.ensures.value ∙ sym c.in-Some.ensures.reply)
          (c.balance_queues.ensures.each k d within by c.args.step handed (c.in-Some.ensures.lengths ∙ sym c.deref-2.ensures.value) c.in-Some.ensures.moved))
          (one-reads f by s c.in-Some.reply handed (component.Vcpu 0) places c.index-places-0.result (part.Vcpu c.vcpu.result.now)
          (subst (λ l. AreOf (component.Vcpu 0 ∷ []) (map f l)) (sym c.split_at_mut-queues.ensures.back) c.requires.vcpu) c.index-places-0.is (c.index-places-0.is ∙ c.vcpu.ensures) c.in-Some.ensures.vcpu));
      alone = c.in-Some.ensures.handed;
      told = untold _ _ _ c.in-Some.ensures.handed (refl, refl, refl, refl, refl) c.nothing.ensures;
    }
