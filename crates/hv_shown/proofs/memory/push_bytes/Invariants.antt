use Rattle.std.proofs.Common.{◌≡◌, ◌++◌, take}
use Rattle.std.specs.List.{flat_map}
use Rattle.hv_model.specs.Transcript.{byte_shown}
use Rattle.hv_shown.proofs.memory.push_bytes.Given as goal

abbrev pub invariant-loop-byte : goal.invariant-loop-byte
invariant-loop-byte l = l.to ≡ l.fn.to ++ flat_map byte_shown (take l.byte-index l.bytes)
