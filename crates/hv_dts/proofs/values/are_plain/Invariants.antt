use Rattle.std.proofs.Common.{◌≡◌, drop}
use Rattle.hv_dts.specs.Bytes.{values_references}
use Rattle.hv_dts.specs.Maps.{is_nil}
use Rattle.hv_dts.proofs.values.are_plain.Given as goal

abbrev pub invariant-loop-value : goal.invariant-loop-value
invariant-loop-value l = is_nil (values_references (drop l.value-index l.values)) ≡ is_nil (values_references l.values)
