use Rattle.std.proofs.lemmas.List.Elements.{All-nil}
use Rattle.hv_programs.specs.Owed.{IsOwed}
use Rattle.hv_terminals.proofs.OwedSteps.{terminal-kept}
use Rattle.hv_terminals.proofs.laws.terminals_owe_steps_of_the_board.Goals as goal

pub returns-clause-start : goal.returns-clause-start
returns-clause-start c = λ plans boot own. All-nil IsOwed

pub returns-clause-step : goal.returns-clause-step
returns-clause-step c = terminal-kept
