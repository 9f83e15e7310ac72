use Rattle.std.proofs.Common.{◌≡◌, ◌+◌}
use Rattle.hv_plan.specs.Settings.{nest_of}
use Rattle.hv_plan.specs.Reading.{nodes_at}
use Rattle.hv_plan.proofs.Nests.{deepest}
use Rattle.hv_plan.proofs.nest.nest_of.Given as goal

abbrev pub invariant-levels : goal.invariant-levels
invariant-levels l = l.nest + deepest (nodes_at l.level.items) ≡ nest_of l.root

abbrev pub decreases-levels : goal.decreases-levels
decreases-levels l = deepest (nodes_at l.level.items)
