use Rattle.std.proofs.Common.{length}
use Rattle.hv_data.proofs.Pairs.{ReadsPairs}
use Rattle.hv_data.proofs.word.bytes_word.Given as goal

abbrev pub invariant-loop-byte : goal.invariant-loop-byte
invariant-loop-byte l = ReadsPairs l.fn.word l.bytes.items l.rest

abbrev pub decreases-loop-byte : goal.decreases-loop-byte
decreases-loop-byte l = length l.rest
