use Rattle.std.proofs.Common.{◌≡◌, ◌++◌, take}
use Rattle.hv_plan.specs.Reading.{nodes_at}
use Rattle.hv_plan.proofs.nest.push_children.Given as goal

abbrev pub invariant-loop-child : goal.invariant-loop-child
invariant-loop-child l = nodes_at l.level.items ≡ nodes_at l.initial.level.items ++ take l.child-index l.child-items
