use Rattle.std.proofs.Common.{take, All}
use Rattle.hv_region.specs.Windows.{Holds, IsOwn}
use Rattle.hv_region.proofs.list.WindowList.alias_of.Given as goal

abbrev pub invariant-loop-window : goal.invariant-loop-window
invariant-loop-window l = All (λ window. IsOwn window → Holds window l.kind l.addr l.size → ⊥) (take l.window-index l.window-items)
