use Rattle.hv_terminals.proofs.Agreement.{terminal-agrees}
use Rattle.hv_terminals.proofs.laws.terminals_agree_to_what_is_due.Goals as goal

pub returns : goal.returns
returns c = terminal-agrees
