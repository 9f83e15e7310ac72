use Rattle.std.proofs.Common.{◌≡◌, ◌++◌}
use Rattle.std.specs.List.{flat_map, range_with_len}
use Rattle.hv_model.specs.Transcript.{memory_line}
use Rattle.hv_shown.proofs.memory.push_memory.Given as goal

abbrev pub invariant-loop-number : goal.invariant-loop-number
invariant-loop-number l = l.to ≡ l.fn.to ++ flat_map (memory_line l.fn.address l.fn.bytes) (range_with_len 0 l.number)
