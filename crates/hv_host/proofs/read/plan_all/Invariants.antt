use Rattle.std.proofs.Common.{take}
use Rattle.hv_host.specs.Boards.{ArePlanned}
use Rattle.hv_host.proofs.read.plan_all.Given as goal

abbrev pub invariant-loop-name : goal.invariant-loop-name
invariant-loop-name l = ArePlanned l.host.areas.items l.tree (take l.name-index l.name-items) l.plans.items
