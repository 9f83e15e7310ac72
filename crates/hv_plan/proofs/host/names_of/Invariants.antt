use Rattle.std.proofs.Common.{◌≡◌, ◌++◌, drop, map}
use Rattle.hv_dtree.specs.Nodes.{name_of}
use Rattle.hv_plan.proofs.host.names_of.Given as goal

abbrev pub invariant-loop-row : goal.invariant-loop-row
invariant-loop-row l = l.names.items ++ map name_of (drop l.row l.nodes) ≡ map name_of l.nodes
