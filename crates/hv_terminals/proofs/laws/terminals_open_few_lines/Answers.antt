use Rattle.hv_terminals.proofs.Agreement.{few-lines}
use Rattle.hv_terminals.proofs.laws.terminals_open_few_lines.Goals as goal

pub returns : goal.returns
returns c = few-lines
