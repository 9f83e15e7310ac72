use Rattle.std.proofs.Common.{◌≡◌, ◌++◌, drop}
use Rattle.hv_dts.specs.Bytes.{cells_bytes}
use Rattle.hv_dts.specs.Maps.{links_in}
use Rattle.hv_dts.proofs.values.push_cells.Given as goal

abbrev pub invariant-loop-cell : goal.invariant-loop-cell
invariant-loop-cell l = l.out.items ++ cells_bytes (links_in l.links) (drop l.cell-index l.cells) ≡ l.initial.out.items ++ cells_bytes (links_in l.links) l.cells
