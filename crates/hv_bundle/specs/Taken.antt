-- The paths that earlier files have taken, in an ordered set.
use Rattle.std.specs.Prelude.{◌≡◌, ℕ, List, IsTrue}
use Rattle.std.specs.Ordering.{nat_cmp}
use Rattle.std.specs.Cmp.Lexicographic.{slice_cmp}
use Rattle.std.specs.BTreeSet.{BTreeSet, contains}
use Rattle.hv_text.specs.Path.{IsPathPrefix}
use Rattle.hv_bundle.specs.Bundle.{AreApart}

-- the set has this path
abbrev pub IsTaken : BTreeSet (List (List ℕ)) → List (List ℕ) → Type 0
IsTaken taken path = IsTrue (contains (slice_cmp (slice_cmp nat_cmp)) taken path)

-- no path of the set is a prefix of another
abbrev pub AreAllApart : BTreeSet (List (List ℕ)) → Type 0
AreAllApart taken = (one other : List (List ℕ))
    → IsTaken taken one → IsTaken taken other → IsPathPrefix one other → one ≡ other

-- the path begins with all the names of a taken one
abbrev pub LiesInTaken : BTreeSet (List (List ℕ)) → List (List ℕ) → Type 0
LiesInTaken taken path = (one : List (List ℕ)) × IsTaken taken one × IsPathPrefix one path

-- a taken path begins with all the names of this one
abbrev pub HasTakenInside : BTreeSet (List (List ℕ)) → List (List ℕ) → Type 0
HasTakenInside taken path = (one : List (List ℕ)) × IsTaken taken one × IsPathPrefix path one

-- the path is apart from each taken one
abbrev pub IsApartFromTaken : BTreeSet (List (List ℕ)) → List (List ℕ) → Type 0
IsApartFromTaken taken path = (one : List (List ℕ)) → IsTaken taken one → AreApart one path
