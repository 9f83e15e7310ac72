use Rattle.std.proofs.Common.{◌≡◌, drop}
use Rattle.hv_dtree.specs.Nodes.{child_named}
use Rattle.hv_dtree.proofs.tree.child_named.Given as goal

abbrev pub invariant-loop-child : goal.invariant-loop-child
invariant-loop-child l = child_named l.name (drop l.child-index l.children) ≡ child_named l.name l.children
