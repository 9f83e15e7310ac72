use Rattle.std.proofs.Common.{◌≡◌, drop, take}
use Rattle.hv_memory_steps.specs.Ranges.{own_memory}
use Rattle.hv_memory_steps.proofs.bytes.own_bytes.Given as goal

abbrev pub invariant-loop-index : goal.invariant-loop-index
invariant-loop-index g l = l.bytes.items ≡ take l.index (drop l.offset (own_memory l.body))
