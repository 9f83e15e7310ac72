use Rattle.std.proofs.Common.{take, All}
use Rattle.hv_region.specs.Windows.{Holds}
use Rattle.hv_region.proofs.list.WindowList.find.Given as goal

abbrev pub invariant-loop-window : goal.invariant-loop-window
invariant-loop-window l = All (λ window. Holds window l.kind l.addr l.size → ⊥) (take l.window-index l.window-items)
