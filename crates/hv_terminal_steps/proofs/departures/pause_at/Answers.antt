use Rattle.std.proofs.Common.{refl, ◌∙◌, ◌∷◌, ◌++◌, []}
use Rattle.std.specs.Prelude.{Err}
use Rattle.hv_answer.specs.declared.reply.Reply.TheVariants as replies
use Rattle.hv_event.specs.declared.event.CellId.TheVariants as component
use Rattle.hv_handed.specs.Given.{given}
use Rattle.hv_parts.specs.Value.{valued}
use Rattle.hv_rules.specs.Footprint.{all_queues}
use Rattle.hv_step.specs.declared.step.Step.TheVariants as steps
use Rattle.hv_parts.proofs.Directories.{are-behind, behind-take, behind-long}
use Rattle.hv_parts.proofs.Lists.{stand-before}
use Rattle.hv_terminal_steps.proofs.departures.pause_at.Goals as goal

pub split_at_mut-others-requires : goal.split_at_mut-others-requires
split_at_mut-others-requires g c =
    behind-long (valued g.E.Emulator.state) c.args.step.now.guest (all_queues c.args.harts ++ component.Vcpu c.args.step.now.vcpu ∷ []) c.args.parts.now _ c.directories-before.ensures c.requires.admitted c.requires.parts

pub pause_behind-requires-clause-long : goal.pause_behind-requires-clause-long
pause_behind-requires-clause-long g c =
    (stand-before (valued g.E.Emulator.state) c.args.harts 0 c.args.step.now.vcpu c.split_at_mut-others.result.1.now (are-behind (valued g.E.Emulator.state) c.args.step.now.guest (all_queues c.args.harts ++ component.Vcpu c.args.step.now.vcpu ∷ []) c.args.parts.now c.split_at_mut-others.result.0.now c.split_at_mut-others.result.1.now c.requires.admitted
    c.requires.parts c.split_at_mut-others.ensures.value (c.split_at_mut-others.ensures.front_len ∙ c.directories-before.ensures))).long

pub pause_behind-requires-clause-queues : goal.pause_behind-requires-clause-queues
pause_behind-requires-clause-queues g c =
    (stand-before (valued g.E.Emulator.state) c.args.harts 0 c.args.step.now.vcpu c.split_at_mut-others.result.1.now (are-behind (valued g.E.Emulator.state) c.args.step.now.guest (all_queues c.args.harts ++ component.Vcpu c.args.step.now.vcpu ∷ []) c.args.parts.now c.split_at_mut-others.result.0.now c.split_at_mut-others.result.1.now c.requires.admitted
    c.requires.parts c.split_at_mut-others.ensures.value (c.split_at_mut-others.ensures.front_len ∙ c.directories-before.ensures))).queues

pub pause_behind-requires-clause-vcpu : goal.pause_behind-requires-clause-vcpu
pause_behind-requires-clause-vcpu g c =
    (stand-before (valued g.E.Emulator.state) c.args.harts 0 c.args.step.now.vcpu c.split_at_mut-others.result.1.now (are-behind (valued g.E.Emulator.state) c.args.step.now.guest (all_queues c.args.harts ++ component.Vcpu c.args.step.now.vcpu ∷ []) c.args.parts.now c.split_at_mut-others.result.0.now c.split_at_mut-others.result.1.now c.requires.admitted
    c.requires.parts c.split_at_mut-others.ensures.value (c.split_at_mut-others.ensures.front_len ∙ c.directories-before.ensures))).vcpu

pub returns : goal.returns
returns g c =
    λ by.
    record {
      touched = refl;
      taken =
          behind-take (valued g.E.Emulator.state) by (steps.Pause c.args.step.now) c.pause_behind.result.reply (given g.E.Emulator.state c.pause_behind.result.handed.value) (λ why. replies.Pause (Err why))
          c.args.step.now.guest (all_queues c.args.harts ++ component.Vcpu c.args.step.now.vcpu ∷ []) c.args.parts.now c.split_at_mut-others.result.0.now c.split_at_mut-others.result.1.now c.pause_behind.new.parts
          (λ d is. record { agrees = is; after = refl }) c.requires.admitted c.requires.parts c.split_at_mut-others.ensures.value
          (c.split_at_mut-others.ensures.front_len ∙ c.directories-before.ensures) (c.pause_behind.ensures.taken by);
      alone = c.pause_behind.ensures.alone;
      told = c.pause_behind.ensures.told;
    }
