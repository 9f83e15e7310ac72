use Rattle.std.proofs.Common.{refl}
use Rattle.hv_event.specs.declared.event.ActorId.TheVariants.{Hart}
use Rattle.hv_event.specs.declared.event.CellId.TheVariants as component
use Rattle.hv_handed.specs.Given.{given}
use Rattle.hv_handed.proofs.Learnt.{untold}
use Rattle.hv_parts.specs.Value.{valued}
use Rattle.hv_parts.specs.declared.part.Part.TheVariants as part
use Rattle.hv_parts.proofs.Lists.{one-reads}
use Rattle.hv_step.specs.declared.step.Step.TheVariants as steps
use Rattle.hv_hart_steps.proofs.turns.idle_at.Goals as goal

pub returns : goal.returns
returns g c =
    λ harts.
    record {
      touched = refl;
      taken =
          one-reads (valued g.E.Emulator.state) (Hart c.args.hart) (steps.Idle c.args.step) c.in-Some.reply (given g.E.Emulator.state c.in-Some.handed.value) (component.Queue c.args.hart) c.args.parts.now c.index-parts-0.result
          (part.Queue c.queue.result.now) c.requires.parts c.index-parts-0.is c.queue.ensures (c.in-Some.ensures.queue c.args.hart);
      alone = c.in-Some.ensures.handed;
      told = untold _ _ _ c.in-Some.ensures.handed (refl, refl, refl, refl, refl) c.nothing.ensures;
    }
