use Rattle.std.proofs.Common.{◌≡◌, ◌++◌, drop}
use Rattle.hv_dts.specs.Bytes.{values_bytes}
use Rattle.hv_dts.specs.Maps.{links_in}
use Rattle.hv_dts.proofs.values.values_bytes.Given as goal

abbrev pub invariant-loop-value : goal.invariant-loop-value
invariant-loop-value l = l.out.items ++ values_bytes (links_in l.links) (drop l.value-index l.values) ≡ values_bytes (links_in l.links) l.values
