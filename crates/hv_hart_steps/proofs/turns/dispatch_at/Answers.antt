use Rattle.std.proofs.Common.{refl, []}
use Rattle.hv_event.specs.declared.event.ActorId.TheVariants.{Hart}
use Rattle.hv_event.specs.declared.event.CellId.TheVariants as component
use Rattle.hv_handed.specs.Given.{given}
use Rattle.hv_handed.proofs.Learnt.{untold}
use Rattle.hv_parts.specs.Value.{valued}
use Rattle.hv_parts.specs.declared.part.Part.TheVariants as part
use Rattle.hv_parts.proofs.Lists.{two-take, no-others}
use Rattle.hv_step.specs.declared.step.Step.TheVariants as steps
use Rattle.hv_hart_steps.proofs.turns.dispatch_at.Goals as goal

pub returns : goal.returns
returns g c =
    λ harts.
    record {
      touched = refl;
      taken =
          two-take (valued g.E.Emulator.state) (Hart c.args.hart) (steps.Dispatch c.args.step) c.in-Some.reply (given g.E.Emulator.state c.in-Some.handed.value)
          (component.Queue c.args.hart) (component.Vcpu c.args.step.vcpu) [] c.args.parts.now c.split_at_mut-front.result.0.now c.split_at_mut-front.result.1.now
          c.index-front-0.result c.index-back-0.result (part.Queue c.queue_mut-home.result.now) (part.Vcpu c.vcpu_mut.result.now) (part.Queue c.dispatch.new.queue) (part.Vcpu c.dispatch.new.vcpu)
          c.requires.parts c.split_at_mut-front.ensures.value c.split_at_mut-front.ensures.front_len c.queue_mut-home.ensures.value c.vcpu_mut.ensures.value
          (c.in-Some.ensures.queue c.args.hart) c.in-Some.ensures.vcpu
          (λ p q rest is are. no-others (valued g.E.Emulator.state) (Hart c.args.hart) (steps.Dispatch c.args.step) c.in-Some.reply (given g.E.Emulator.state c.in-Some.handed.value) p q rest are);
      alone = c.in-Some.ensures.handed;
      told = untold _ _ _ c.in-Some.ensures.handed (refl, refl, refl, refl, refl) c.nothing.ensures;
    }
