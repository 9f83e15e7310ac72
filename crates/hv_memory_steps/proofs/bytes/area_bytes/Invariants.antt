use Rattle.std.proofs.Common.{◌≡◌, drop, take}
use Rattle.hv_memory_steps.proofs.bytes.area_bytes.Given as goal

abbrev pub invariant-loop-index : goal.invariant-loop-index
invariant-loop-index l = l.bytes.items ≡ take l.index (drop l.offset l.area)
