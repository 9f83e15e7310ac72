use Rattle.std.proofs.Common.{ap, sym, ◌∙◌}
use Rattle.hv_terminals.specs.Session.{SessionKept}
use Rattle.hv_terminals.proofs.Sessions.{due-of-line}
use Rattle.hv_terminals.proofs.session.Session.due.Goals as goal

pub returns-in_ok-due_of_line-in-Some-clause-due : goal.returns-in_ok-due_of_line-in-Some-clause-due
returns-in_ok-due_of_line-in-Some-clause-due c =
    due-of-line c.args.plans.now c.args.self.now.session c.in-Some.line c.in_ok-due_of_line-in-Some.field-0
    (sym (ap (λ (s : SessionKept). s.session.line) c.self.view_is) ∙ c.in-Some.is)
    c.in_ok-due_of_line-in-Some.ensures.due
