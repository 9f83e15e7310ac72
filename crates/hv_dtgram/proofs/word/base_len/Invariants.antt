use Rattle.std.proofs.Common.{◌≡◌, ◌+◌, drop}
use Rattle.std.specs.List.{prefix_len}
use Rattle.hv_dtgram.specs.Lexed.{is_node_byte}
use Rattle.hv_dtgram.proofs.word.base_len.Given as goal

abbrev pub invariant-loop-at : goal.invariant-loop-at
invariant-loop-at l = l.at + prefix_len is_node_byte (drop l.at l.word) ≡ prefix_len is_node_byte l.word
