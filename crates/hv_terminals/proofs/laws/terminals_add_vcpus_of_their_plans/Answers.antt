use Rattle.hv_terminals.proofs.Adding.{terminal-adds}
use Rattle.hv_terminals.proofs.laws.terminals_add_vcpus_of_their_plans.Goals as goal

pub returns-clause-start : goal.returns-clause-start
returns-clause-start c = λ plans boot own. tt

pub returns-clause-step : goal.returns-clause-step
returns-clause-step c = terminal-adds
