use Rattle.std.proofs.Common.{◌≡◌, drop}
use Rattle.hv_dtree.specs.Nodes.{node_at}
use Rattle.hv_dtree.proofs.tree.Tree.find.Given as goal

abbrev pub invariant-loop-name : goal.invariant-loop-name
invariant-loop-name l = node_at (drop l.name-index l.names) l.node ≡ node_at l.names l.self
