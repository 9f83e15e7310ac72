use Rattle.std.proofs.Common.{rules, ap, sym, ◌∙◌}
use Rattle.std.specs.Option.{option_map}
use Rattle.hv_programs.specs.Owed.{step_of}
use Rattle.hv_terminals.specs.Terminal.{TerminalKept}
use Rattle.hv_terminals.proofs.Terminals.{none-owed, some-owed}
use Rattle.hv_terminals.proofs.terminal.Terminal.owes_nothing.Goals as goal

pub returns-in-None : goal.returns-in-None
returns-in-None c = (
  λ is.
      sym (ap (λ (t : TerminalKept). t.terminal.owed) c.self.view_is)
      ∙ none-owed c.self.inside.owed.steps (sym c.next.ensures ∙ ap (option_map step_of) c.in-None.is),
  λ nothing. search rules,
)

pub returns-in-Some : goal.returns-in-Some
returns-in-Some c = (
  λ is. search rules,
  λ nothing.
      absurd (some-owed c.self.inside.owed.steps (step_of c.in-Some.field-0)
      (sym c.next.ensures ∙ ap (option_map step_of) c.in-Some.is)
      (ap (λ (t : TerminalKept). t.terminal.owed) c.self.view_is ∙ nothing)),
)
