use Rattle.std.proofs.Common.{refl, []}
use Rattle.hv_event.specs.declared.event.CellId.TheVariants as component
use Rattle.hv_handed.specs.Given.{given}
use Rattle.hv_parts.specs.Value.{valued}
use Rattle.hv_parts.specs.declared.part.Part.TheVariants as part
use Rattle.hv_rules.specs.Footprint.{home_queue}
use Rattle.hv_step.specs.declared.step.Step.TheVariants as steps
use Rattle.hv_parts.proofs.Lists.{two-take, no-others}
use Rattle.hv_handed.proofs.Learnt.{untold}
use Rattle.hv_terminal_steps.proofs.arrivals.kick_behind.Goals as goal

pub returns : goal.returns
returns g c = record {
  taken =
      λ by.
      two-take (valued g.E.Emulator.state) by (steps.Kick c.args.step.now) c.kick-reply.result.0 (given g.E.Emulator.state c.kick-reply.result.1.value)
      (home_queue c.args.harts c.args.step.now.vcpu) (component.Vcpu c.args.step.now.vcpu) [] c.args.parts.now c.split_at_mut-front.result.0.now c.split_at_mut-front.result.1.now
      c.index-front-0.result c.index-back-0.result (part.Queue c.queue_mut.result.now) (part.Vcpu c.vcpu_mut.result.now) (part.Queue c.kick-reply.new.home) (part.Vcpu c.kick-reply.new.vcpu)
      c.requires.parts c.split_at_mut-front.ensures.value
      c.split_at_mut-front.ensures.front_len c.queue_mut.ensures.value c.vcpu_mut.ensures.value (c.kick-reply.ensures.queue _)
      (c.kick-reply.ensures.vcpu by) (λ p q rest is are. no-others (valued g.E.Emulator.state) by (steps.Kick c.args.step.now) c.kick-reply.result.0 (given g.E.Emulator.state c.kick-reply.result.1.value) p q rest are);
  alone = c.kick-reply.ensures.handed;
  told = untold _ _ _ c.kick-reply.ensures.handed (refl, refl, refl, refl, refl) c.nothing.ensures;
}
