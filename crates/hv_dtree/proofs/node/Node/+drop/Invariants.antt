use Rattle.hv_dtree.proofs.Counts.{left}
use Rattle.hv_dtree.proofs.node.Node.+drop.Given as goal

abbrev pub decreases-letting_go : goal.decreases-letting_go
decreases-letting_go l = left l.todo l.hand
