use Rattle.std.proofs.Common.{Option, ℕ, ap, sym, subst, ◌∙◌}
use Rattle.std.specs.Option.{option_copied}
use Rattle.hv_words.specs.Said.{said}
use Rattle.hv_model.specs.Session.{begun, task_of}
use Rattle.hv_terminals.specs.Due.{room_for}
use Rattle.hv_terminals.specs.Scripts.{begun_depth, begun_line}
use Rattle.hv_terminals.specs.Session.{SessionKept}
use Rattle.hv_terminals.specs.Task.{IsDueOf}
use Rattle.hv_terminals.proofs.Sessions.{due-of-begun}
use Rattle.hv_terminals.proofs.session.Session.due_next.Goals as goal

pub returns-clause-due : goal.returns-clause-due
returns-clause-due c =
    due-of-begun c.args.plans.now c.args.self.now.session c.in-Some.line.now c.depth.result c.in_ok-due_of_command.field-0 c.requires
    (sym (ap (λ (s : SessionKept). begun_line (begun s.session)) c.self.view_is) ∙ sym c.line.ensures ∙ ap option_copied c.in-Some.is)
    (c.depth.ensures ∙ ap (λ (s : SessionKept). begun_depth (begun s.session)) c.self.view_is)
    (subst (λ (room : Option ℕ). IsDueOf c.args.plans.now room (task_of c.args.plans.now c.in-Some.line.now (said c.in-Some.line.now)) c.in_ok-due_of_command.field-0)
    (c.room_for-room.ensures ∙ ap (λ (s : SessionKept). room_for c.depth.result s.session.lines) c.self.view_is)
    c.in_ok-due_of_command.ensures.due)
