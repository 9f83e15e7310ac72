use Rattle.std.proofs.Common.{◌≡◌, ◌++◌, drop}
use Rattle.std.specs.Prelude.{map}
use Rattle.std.specs.List.{flat_map}
use Rattle.hv_dts.specs.Rules.{node_labels}
use Rattle.hv_dts.proofs.references.node_labels.Given as goal

abbrev pub invariant-loop-entry : goal.invariant-loop-entry
invariant-loop-entry l = map (λ it. it.now) l.out.items ++ flat_map node_labels (drop l.entry-index l.entries) ≡ flat_map node_labels l.entries
