use Rattle.std.proofs.Common.{◌≡◌, drop}
use Rattle.std.specs.List.{list_all}
use Rattle.hv_dtgram.specs.Lexed.{is_prop_byte}
use Rattle.hv_dtgram.proofs.word.are_prop_bytes.Given as goal

abbrev pub invariant-loop-byte : goal.invariant-loop-byte
invariant-loop-byte l = list_all is_prop_byte (drop l.byte-index l.bytes) ≡ list_all is_prop_byte l.bytes
