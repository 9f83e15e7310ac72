use Rattle.std.proofs.Common.{◌≡◌, drop}
use Rattle.std.specs.List.{list_all}
use Rattle.hv_dtgram.specs.Lexed.{is_node_byte}
use Rattle.hv_dtgram.proofs.word.are_node_bytes.Given as goal

abbrev pub invariant-loop-byte : goal.invariant-loop-byte
invariant-loop-byte l = list_all is_node_byte (drop l.byte-index l.bytes) ≡ list_all is_node_byte l.bytes
