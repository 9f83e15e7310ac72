use Rattle.std.proofs.Common.{ap, sym, ◌∙◌}
use Rattle.std.specs.Option.{option_map}
use Rattle.hv_programs.specs.Ask.{ask_of}
use Rattle.hv_terminals.proofs.Tasks.{line_shown}
use Rattle.hv_terminals.proofs.task.step_of_line.Goals as goal

pub returns-clause-shown : goal.returns-clause-shown
returns-clause-shown c = λ given.
    line_shown c.args.line.now (ask_of c.in-Some.ask) c.index_in.result c.in-Some-2.step given
    (ap (option_map ask_of) (sym c.in-Some.is) ∙ c.next_ask.ensures.next)
    c.index_in.ensures.index
    (sym c.in-Some-2.is ∙ c.in_ok-step.ensures)
