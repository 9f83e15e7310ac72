use Rattle.std.proofs.Common.{refl, ◌∙◌, ◌∷◌, []}
use Rattle.std.specs.Prelude.{Err}
use Rattle.hv_answer.specs.declared.reply.Reply.TheVariants as replies
use Rattle.hv_event.specs.declared.event.CellId.TheVariants as component
use Rattle.hv_handed.specs.Given.{given}
use Rattle.hv_parts.specs.Value.{valued}
use Rattle.hv_rules.specs.Footprint.{home_queue}
use Rattle.hv_step.specs.declared.step.Step.TheVariants as steps
use Rattle.hv_parts.proofs.Directories.{are-behind, behind-take, behind-long}
use Rattle.hv_terminal_steps.proofs.arrivals.kick_at.Goals as goal

pub split_at_mut-others-requires : goal.split_at_mut-others-requires
split_at_mut-others-requires g c =
    behind-long (valued g.E.Emulator.state) c.args.step.now.guest (home_queue c.args.harts c.args.step.now.vcpu ∷ component.Vcpu c.args.step.now.vcpu ∷ []) c.args.parts.now _ c.directories-before.ensures c.requires.admitted c.requires.parts

pub kick_behind-requires-clause-parts : goal.kick_behind-requires-clause-parts
kick_behind-requires-clause-parts g c =
    are-behind (valued g.E.Emulator.state) c.args.step.now.guest (home_queue c.args.harts c.args.step.now.vcpu ∷ component.Vcpu c.args.step.now.vcpu ∷ []) c.args.parts.now c.split_at_mut-others.result.0.now c.split_at_mut-others.result.1.now c.requires.admitted
    c.requires.parts c.split_at_mut-others.ensures.value (c.split_at_mut-others.ensures.front_len ∙ c.directories-before.ensures)

pub returns : goal.returns
returns g c =
    λ by.
    record {
      touched = refl;
      taken =
          behind-take (valued g.E.Emulator.state) by (steps.Kick c.args.step.now) c.kick_behind.result.reply (given g.E.Emulator.state c.kick_behind.result.handed.value) (λ why. replies.Kick (Err why))
          c.args.step.now.guest (home_queue c.args.harts c.args.step.now.vcpu ∷ component.Vcpu c.args.step.now.vcpu ∷ []) c.args.parts.now c.split_at_mut-others.result.0.now c.split_at_mut-others.result.1.now c.kick_behind.new.parts
          (λ d is. record { agrees = is; after = refl }) c.requires.admitted c.requires.parts c.split_at_mut-others.ensures.value
          (c.split_at_mut-others.ensures.front_len ∙ c.directories-before.ensures) (c.kick_behind.ensures.taken by);
      alone = c.kick_behind.ensures.alone;
      told = c.kick_behind.ensures.told;
    }
