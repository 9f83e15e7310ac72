use Rattle.std.proofs.Common.{◌≡◌, ◌++◌, take}
use Rattle.hv_data.specs.Text.{hex_pairs}
use Rattle.hv_data.proofs.push.push_pairs.Given as goal

abbrev pub invariant-loop-byte : goal.invariant-loop-byte
invariant-loop-byte l = l.to ≡ l.fn.to ++ hex_pairs (take l.byte-index l.bytes)
