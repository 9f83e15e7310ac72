use Rattle.std.proofs.Common.{◌≡◌, List, ℕ, drop}
use Rattle.std.specs.List.{list_any}
use Rattle.hv_dts.specs.Rules.{has_name}
use Rattle.hv_dts.specs.Sets.{Holds}
use Rattle.hv_dts.proofs.linking.is_asked.Given as goal

abbrev pub invariant-loop-label : goal.invariant-loop-label
invariant-loop-label l = (held : List (List ℕ)) → Holds l.asked held
    → list_any (λ label. has_name held label.name) (drop l.label-index l.labels) ≡ list_any (λ label. has_name held label.name) l.labels
