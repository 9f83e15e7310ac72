use Rattle.std.proofs.Common.{take}
use Rattle.hv_refusal.specs.Node.{AreNodeBytes}
use Rattle.hv_refusal.proofs.node.are_node_bytes.Given as goal

abbrev pub invariant-loop-byte : goal.invariant-loop-byte
invariant-loop-byte l = AreNodeBytes (take l.byte-index l.bytes)
