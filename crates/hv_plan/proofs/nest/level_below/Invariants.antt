use Rattle.std.proofs.Common.{◌≡◌, take}
use Rattle.hv_plan.specs.Reading.{nodes_at, all_children}
use Rattle.hv_plan.proofs.nest.level_below.Given as goal

abbrev pub invariant-loop-node : goal.invariant-loop-node
invariant-loop-node l = nodes_at l.below.items ≡ all_children (nodes_at (take l.node-index l.level))
