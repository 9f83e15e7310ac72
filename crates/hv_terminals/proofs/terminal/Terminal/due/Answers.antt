use Rattle.std.proofs.Common.{◌≡◌, [], ap, sym, subst, ◌∙◌}
use Rattle.std.specs.Option.{option_map}
use Rattle.hv_model.specs.Session.{present}
use Rattle.hv_programs.specs.Owed.{step_of}
use Rattle.hv_terminals.specs.Session.{IsDuePresent}
use Rattle.hv_terminals.specs.Terminal.{TerminalKept}
use Rattle.hv_terminals.proofs.Terminals.{due-end, none-owed}
use Rattle.hv_terminals.proofs.terminal.Terminal.due.Goals as goal

pub returns-clause-end : goal.returns-clause-end
returns-clause-end c =
    let nothing : c.self.inside.owed.steps ≡ [] =
    none-owed c.self.inside.owed.steps (sym c.next.ensures ∙ ap (option_map step_of) c.in_default.is)
    in
    due-end c.args.self.now.terminal c.in_ok-due.due
    (sym (ap (λ (t : TerminalKept). t.terminal.owed) c.self.view_is) ∙ nothing)
    (subst (λ (t : TerminalKept). IsDuePresent t.terminal.plans t.terminal.session.lines (present t.terminal.plans t.terminal.session) c.in_ok-due.due)
    c.self.view_is c.in_ok-due.ensures.due)
