use Rattle.std.proofs.Common.{◌≡◌, ◌++◌, drop}
use Rattle.std.specs.Prelude.{map}
use Rattle.hv_dts.specs.Bytes.{cell_lists_references}
use Rattle.hv_dts.proofs.references.push_cell_lists.Given as goal

abbrev pub invariant-loop-value : goal.invariant-loop-value
invariant-loop-value l = map (λ it. it.now) l.out.items ++ cell_lists_references (drop l.value-index l.values) ≡ map (λ it. it.now) l.initial.out.items ++ cell_lists_references l.values
