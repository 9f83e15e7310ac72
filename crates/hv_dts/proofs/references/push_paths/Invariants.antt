use Rattle.std.proofs.Common.{◌≡◌, ◌++◌, drop}
use Rattle.std.specs.Prelude.{map}
use Rattle.hv_dts.specs.Bytes.{paths_references}
use Rattle.hv_dts.proofs.references.push_paths.Given as goal

abbrev pub invariant-loop-value : goal.invariant-loop-value
invariant-loop-value l = map (λ it. it.now) l.out.items ++ paths_references (drop l.value-index l.values) ≡ map (λ it. it.now) l.initial.out.items ++ paths_references l.values
