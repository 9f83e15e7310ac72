use Rattle.hv_host.proofs.Keeps.{said-keeps}
use Rattle.hv_host.proofs.read.read_board.Goals as goal

pub returns-in_ok-tree-in-Some-clause-rules : goal.returns-in_ok-tree-in-Some-clause-rules
returns-in_ok-tree-in-Some-clause-rules c = said-keeps c.in-Some.text.now c.board_of.result c.board_of.ensures
