use Rattle.std.proofs.Common.{◌≡◌, drop}
use Rattle.hv_dts.specs.Bytes.{cells_references}
use Rattle.hv_dts.specs.Maps.{is_nil}
use Rattle.hv_dts.proofs.values.cells_are_plain.Given as goal

abbrev pub invariant-loop-cell : goal.invariant-loop-cell
invariant-loop-cell l = is_nil (cells_references (drop l.cell-index l.cells)) ≡ is_nil (cells_references l.cells)
