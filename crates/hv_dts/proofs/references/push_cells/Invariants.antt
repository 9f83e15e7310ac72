use Rattle.std.proofs.Common.{◌≡◌, ◌++◌, drop}
use Rattle.std.specs.Prelude.{map}
use Rattle.hv_dts.specs.Bytes.{cells_references}
use Rattle.hv_dts.proofs.references.push_cells.Given as goal

abbrev pub invariant-loop-cell : goal.invariant-loop-cell
invariant-loop-cell l = map (λ it. it.now) l.out.items ++ cells_references (drop l.cell-index l.cells) ≡ map (λ it. it.now) l.initial.out.items ++ cells_references l.cells
