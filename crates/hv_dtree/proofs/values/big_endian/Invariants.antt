use Rattle.std.proofs.Common.{◌≡◌, ◌<◌, ◌^◌, take}
use Rattle.hv_dtree.specs.Nodes.{big_endian}
use Rattle.hv_dtree.proofs.values.big_endian.Given as goal

abbrev pub invariant-loop-byte : goal.invariant-loop-byte
invariant-loop-byte l = record {
  small : l.value < 256 ^ l.byte-index;
  same : l.value ≡ big_endian (take l.byte-index l.bytes);
}
