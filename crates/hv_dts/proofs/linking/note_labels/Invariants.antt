use Rattle.std.proofs.Common.{◌≡◌, List, ℕ, true, drop}
use Rattle.std.specs.Ordering.{nat_cmp}
use Rattle.std.specs.Option.{option_or}
use Rattle.std.specs.Cmp.Lexicographic.{slice_cmp}
use Rattle.std.specs.BTreeMap.{get}
use Rattle.hv_dts.specs.Rules.{has_name}
use Rattle.hv_dts.specs.Sets.{Holds}
use Rattle.hv_dts.specs.Linking.{some_if, names_path}
use Rattle.hv_dts.proofs.Links.{any_label}
use Rattle.hv_dts.proofs.linking.note_labels.Given as goal

abbrev pub invariant-loop-label : goal.invariant-loop-label
invariant-loop-label l = record {
  numbers : (name : List ℕ) → option_or (get (slice_cmp nat_cmp) l.links.numbers name) (some_if (any_label (drop l.label-index l.labels) name) l.number)
      ≡ option_or (get (slice_cmp nat_cmp) l.initial.links.numbers name) (some_if (any_label l.labels name) l.number);
  paths : (held : List (List ℕ)) → Holds l.wanted held → (name : List ℕ) → has_name held name ≡ true
      → option_or (get (slice_cmp nat_cmp) l.links.paths name) (some_if (any_label (drop l.label-index l.labels) name) (names_path l.names))
      ≡ option_or (get (slice_cmp nat_cmp) l.initial.links.paths name) (some_if (any_label l.labels name) (names_path l.names));
}
