use Rattle.std.proofs.Common.{sym, subst}
use Rattle.std.specs.Prelude.{IfOk}
use Rattle.hv_event.specs.declared.event.ActorId.{ActorId}
use Rattle.hv_parts.specs.Takes.{IsMadeAt}
use Rattle.hv_step.specs.declared.step.Step.{Step}
use Rattle.hv_board_steps.proofs.Back.{if-ok}
use Rattle.hv_board_steps.specs.Vcpus.{touched_by}
use Rattle.hv_board_steps.proofs.vcpus.vcpus_at.Goals as goal

pub returns-in-Kick-clause-made : goal.returns-in-Kick-clause-made
returns-in-Kick-clause-made g c =
    λ by.
    subst (λ s. IsMadeAt g.E.Emulator.state c.args.harts by (touched_by c.args.harts s) s c.kick_at.result c.args.parts.now c.kick_at.new.parts) (sym c.in-Kick.is)
    (c.kick_at.ensures by)

pub returns-in-Resume-clause-made : goal.returns-in-Resume-clause-made
returns-in-Resume-clause-made g c =
    λ by.
    subst (λ s. IsMadeAt g.E.Emulator.state c.args.harts by (touched_by c.args.harts s) s c.resume_at.result c.args.parts.now c.resume_at.new.parts) (sym c.in-Resume.is)
    (c.resume_at.ensures by)

pub returns-in-Pause-clause-made : goal.returns-in-Pause-clause-made
returns-in-Pause-clause-made g c =
    λ by.
    subst (λ s. IsMadeAt g.E.Emulator.state c.args.harts by (touched_by c.args.harts s) s c.pause_at.result c.args.parts.now c.pause_at.new.parts) (sym c.in-Pause.is)
    (c.pause_at.ensures by)

pub returns-in-Halt-clause-made : goal.returns-in-Halt-clause-made
returns-in-Halt-clause-made g c =
    λ by.
    subst (λ s. IsMadeAt g.E.Emulator.state c.args.harts by (touched_by c.args.harts s) s c.halt_at.result c.args.parts.now c.halt_at.new.parts) (sym c.in-Halt.is)
    (c.halt_at.ensures by)

pub returns-in-Reset-clause-made : goal.returns-in-Reset-clause-made
returns-in-Reset-clause-made g c =
    λ by.
    subst (λ s. IsMadeAt g.E.Emulator.state c.args.harts by (touched_by c.args.harts s) s c.reset_at.result c.args.parts.now c.reset_at.new.parts) (sym c.in-Reset.is)
    (c.reset_at.ensures by)

pub returns-in-Vdrop-clause-made : goal.returns-in-Vdrop-clause-made
returns-in-Vdrop-clause-made g c =
    λ by.
    subst (λ s. IsMadeAt g.E.Emulator.state c.args.harts by (touched_by c.args.harts s) s c.vdrop_at.result c.args.parts.now c.vdrop_at.new.parts) (sym c.in-Vdrop.is)
    (c.vdrop_at.ensures by)

pub returns-in-Look-clause-made : goal.returns-in-Look-clause-made
returns-in-Look-clause-made g c =
    subst (λ (s : Step). IfOk c.look_at.result (λ made. (by : ActorId) → IsMadeAt g.E.Emulator.state c.args.harts by (touched_by c.args.harts s) s made c.args.parts.now c.args.parts.now)) (sym c.in-Look.is)
    (if-ok c.look_at.result _ _ (λ made is by. is c.args.harts by) c.look_at.ensures)
