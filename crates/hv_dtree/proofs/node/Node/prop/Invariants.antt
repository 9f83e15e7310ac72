use Rattle.std.proofs.Common.{◌≡◌, drop}
use Rattle.hv_dtree.specs.Nodes.{value_among}
use Rattle.hv_dtree.proofs.node.Node.prop.Given as goal

abbrev pub invariant-loop-prop : goal.invariant-loop-prop
invariant-loop-prop l = value_among l.name (drop l.prop-index l.prop-items) ≡ value_among l.name l.prop-items
