-- Sets of names and numbers as lists of what was put into them.
use Rattle.std.specs.Prelude.{◌≡◌, ℕ, List, [], ◌∷◌, ◌==◌, ◌||◌}
use Rattle.std.specs.Ordering.{nat_cmp}
use Rattle.std.specs.Cmp.Lexicographic.{slice_cmp}
use Rattle.std.specs.List.{list_any}
use Rattle.std.specs.BTreeSet.{BTreeSet, contains}
use Rattle.hv_dts.specs.Rules.{has_name}
use Rattle.hv_dtgram.specs.declared.contents.Named.{Named}
use Rattle.hv_dts.specs.declared.sibling_names.SiblingNames.{SiblingNames}

-- the set has these names
abbrev pub Holds : BTreeSet (List ℕ) → List (List ℕ) → Type 0
Holds set names = (name : List ℕ) → contains (slice_cmp nat_cmp) set name ≡ has_name names name

-- a list and a set together have these names
abbrev pub HasNames : SiblingNames → List (List ℕ) → Type 0
HasNames siblings names = (name : List ℕ) → (has_name siblings.few name || contains (slice_cmp nat_cmp) siblings.many name) ≡ has_name names name

-- the set has these numbers
abbrev pub HoldsNumbers : BTreeSet ℕ → List ℕ → Type 0
HoldsNumbers set numbers = (number : ℕ) → contains nat_cmp set number ≡ list_any (λ one. one == number) numbers

-- the names that were seen, the last first
abbrev pub seen_after : List (List ℕ) → List Named → List (List ℕ)
seen_after earlier [] = earlier
seen_after earlier (name ∷ names) = seen_after (name.name ∷ earlier) names
