use Rattle.std.proofs.Common.{take}
use Rattle.std.specs.List.{AllByRecursion}
use Rattle.hv_dtree.specs.Names.{IsNodeName}
use Rattle.hv_refusal.proofs.node.are_node_names.Given as goal

abbrev pub invariant-loop-name : goal.invariant-loop-name
invariant-loop-name l = AllByRecursion IsNodeName (take l.name-index l.names)
