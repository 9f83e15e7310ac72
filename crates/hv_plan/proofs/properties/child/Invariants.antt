use Rattle.std.proofs.Common.{◌≡◌, drop}
use Rattle.hv_dtree.specs.Nodes.{child_named}
use Rattle.hv_plan.proofs.properties.child.Given as goal

abbrev pub invariant-loop-child : goal.invariant-loop-child
invariant-loop-child l = child_named l.name (drop l.child-index l.child-items) ≡ child_named l.name l.child-items
