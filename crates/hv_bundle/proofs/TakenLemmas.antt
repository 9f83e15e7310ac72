-- A set that has the paths of the files so far.
use Rattle.std.proofs.Common.{◌≡◌, ℕ, List, [], ◌∷◌, ◌++◌, Bool, true, false, cond, refl, sym, ap, subst, ◌∙◌, inl, inr}
use Rattle.std.specs.Prelude.{◌⊎◌}
use Rattle.std.specs.List.{AllByRecursion, list_any}
use Rattle.std.proofs.lemmas.Bool.{false≢true}
use Rattle.std.proofs.lemmas.List.Elements.{recursion_from_All, All-from_recursion}
use Rattle.std.specs.Ordering.{nat_cmp, is_eq}
use Rattle.std.specs.Cmp.Lexicographic.{slice_cmp, pointwise_decides, bytes_decides, nat_list_cmp_total, lists_total, lists_ties, texts_ties}
use Rattle.std.specs.BTreeSet.{BTreeSet, contains}
use Rattle.std.proofs.lemmas.Cmp.{tied_itself}
use Rattle.hv_text.specs.Path.{IsPathPrefix}
use Rattle.hv_bundle.specs.declared.file.File.{File}
use Rattle.hv_bundle.specs.Bundle.{AreApart, FitsAfter, AreFitting}
use Rattle.hv_bundle.specs.Taken.{IsTaken, AreAllApart}

-- a file has this path
abbrev pub PathIn : List (List ℕ) → List File → Type 0
PathIn path [] = ⊥
PathIn path (file ∷ files) = (file.path ≡ path) ⊎ PathIn path files

-- the set has the paths of the files, and no others
pub record HasPathsOf (taken : BTreeSet (List (List ℕ))) (files : List File) : Type 0 where
  pub only : (path : List (List ℕ)) → IsTaken taken path → PathIn path files
  pub each : (path : List (List ℕ)) → PathIn path files → IsTaken taken path

apart_at : (files : List File) (path one : List (List ℕ)) → AllByRecursion (λ (file : File). AreApart file.path path) files → PathIn one files → AreApart one path
apart_at [] path one fits here = absurd here
apart_at (file ∷ files) path one fits (inl is) = subst (λ (p : List (List ℕ)). AreApart p path) is fits.0
apart_at (file ∷ files) path one fits (inr here) = apart_at files path one fits.1 here

apart_all : (files : List File) (path : List (List ℕ)) → ((one : List (List ℕ)) → PathIn one files → AreApart one path) → AllByRecursion (λ (file : File). AreApart file.path path) files
apart_all [] path apart = tt
apart_all (file ∷ files) path apart = (apart file.path (inl refl), apart_all files path (λ one here. apart one (inr here)))

-- a path that fits after files is apart from each of theirs
pub fits_apart : (files : List File) (path one : List (List ℕ)) → FitsAfter files path → PathIn one files → AreApart one path
fits_apart files path one fits here = apart_at files path one (recursion_from_All (λ (file : File). AreApart file.path path) files fits) here

pub apart_fits : (files : List File) (path : List (List ℕ)) → ((one : List (List ℕ)) → PathIn one files → AreApart one path) → FitsAfter files path
apart_fits files path apart = All-from_recursion (λ (file : File). AreApart file.path path) files (apart_all files path apart)

in_longer : (earlier more : List File) (path : List (List ℕ)) → PathIn path earlier → PathIn path (earlier ++ more)
in_longer [] more path here = absurd here
in_longer (file ∷ earlier) more path (inl is) = inl is
in_longer (file ∷ earlier) more path (inr here) = inr (in_longer earlier more path here)

in_last : (earlier : List File) (file : File) → PathIn file.path (earlier ++ file ∷ [])
in_last [] file = inl refl
in_last (f ∷ earlier) file = inr (in_last earlier file)

from_longer : (earlier : List File) (file : File) (path : List (List ℕ)) → PathIn path (earlier ++ file ∷ []) → PathIn path earlier ⊎ (file.path ≡ path)
from_longer [] file path (inl is) = inr is
from_longer [] file path (inr here) = absurd here
from_longer (f ∷ earlier) file path (inl is) = inl (inl is)
from_longer (f ∷ earlier) file path (inr here) = elim (from_longer earlier file path here) [
  | inl there ↦ inl (inr there)
  | inr is ↦ inr is
]

-- files that fit are apart from the earlier ones
fits_earlier : (earlier files : List File) (one path : List (List ℕ)) → AreFitting earlier files → PathIn one earlier → PathIn path files → AreApart one path
fits_earlier earlier [] one path h before here = absurd here
fits_earlier earlier (file ∷ files) one path h before (inl is) = subst (λ (p : List (List ℕ)). AreApart one p) is (fits_apart earlier file.path one h.1 before)
fits_earlier earlier (file ∷ files) one path h before (inr here) =
    fits_earlier (earlier ++ file ∷ []) files one path h.2 (in_longer earlier (file ∷ []) one before) here

-- and no path of theirs is a prefix of another
pub fitting_apart : (earlier files : List File) (one other : List (List ℕ)) → AreFitting earlier files → PathIn one files → PathIn other files → IsPathPrefix one other → one ≡ other
fitting_apart earlier [] one other h here there front = absurd here
fitting_apart earlier (file ∷ files) one other h (inl is) (inl it) front = sym is ∙ it
fitting_apart earlier (file ∷ files) one other h (inl is) (inr there) front =
    let apart = fits_earlier (earlier ++ file ∷ []) files file.path other h.2 (in_last earlier file) there in
    absurd (apart.not_above (subst (λ (p : List (List ℕ)). IsPathPrefix p other) (sym is) front))
fitting_apart earlier (file ∷ files) one other h (inr here) (inl it) front =
    let apart = fits_earlier (earlier ++ file ∷ []) files file.path one h.2 (in_last earlier file) here in
    absurd (apart.not_below (subst (λ (p : List (List ℕ)). IsPathPrefix one p) (sym it) front))
fitting_apart earlier (file ∷ files) one other h (inr here) (inr there) front = fitting_apart (earlier ++ file ∷ []) files one other h.2 here there front

pub all_apart : (taken : BTreeSet (List (List ℕ))) (files : List File) → AreFitting [] files → HasPathsOf taken files → AreAllApart taken
all_apart taken files fitting has one other is_taken other_taken front = fitting_apart [] files one other fitting (has.only one is_taken) (has.only other other_taken) front

-- a path that is free fits
pub free_fits : (taken : BTreeSet (List (List ℕ))) (files : List File) (path : List (List ℕ)) → HasPathsOf taken files → ((one : List (List ℕ)) → IsTaken taken one → AreApart one path) → FitsAfter files path
free_fits taken files path has free = apart_fits files path (λ one here. free one (has.each one here))

-- and one that fits is free
pub fits_free : (taken : BTreeSet (List (List ℕ))) (files : List File) (path : List (List ℕ)) → HasPathsOf taken files → FitsAfter files path → (one : List (List ℕ)) → IsTaken taken one → AreApart one path
fits_free taken files path has fits one is_taken = fits_apart files path one fits (has.only one is_taken)

-- an empty set has the paths of no files
pub no_paths : (taken : BTreeSet (List (List ℕ))) → taken.keys ≡ [] → HasPathsOf taken []
no_paths taken none = record {
  only = λ path is. absurd (false≢true (ap (λ (keys : List (List (List ℕ))). list_any (λ k. is_eq (slice_cmp (slice_cmp nat_cmp) path k)) keys) (sym none) ∙ is));
  each = λ path here. absurd here;
}

equal_paths : (one other : List (List ℕ)) → is_eq (slice_cmp (slice_cmp nat_cmp) one other) ≡ true → one ≡ other
equal_paths one other tie = (pointwise_decides bytes_decides one other).0 (lists_ties (slice_cmp nat_cmp) texts_ties one other ∙ tie)

by_tie : (had : Bool) (tie : Bool) {P Q : Type 0} → cond tie true had ≡ true → (tie ≡ true → P) → (had ≡ true → Q) → P ⊎ Q
by_tie had true is one other = inl (one refl)
by_tie had false is one other = inr (other is)

still : (had : Bool) (tie : Bool) → had ≡ true → cond tie true had ≡ true
still had true is = refl
still had false is = is

-- with the path of one file more
pub one_path_more : (taken new : BTreeSet (List (List ℕ))) (files : List File) (file : File) (key : List (List ℕ)) → key ≡ file.path → HasPathsOf taken files
    → ((path : List (List ℕ)) → contains (slice_cmp (slice_cmp nat_cmp)) new path ≡ cond (is_eq (slice_cmp (slice_cmp nat_cmp) key path)) true (contains (slice_cmp (slice_cmp nat_cmp)) taken path))
    → HasPathsOf new (files ++ file ∷ [])
one_path_more taken new files file key named has updates =
    let had = λ (path : List (List ℕ)). contains (slice_cmp (slice_cmp nat_cmp)) taken path in
    let tie = λ (path : List (List ℕ)). is_eq (slice_cmp (slice_cmp nat_cmp) key path) in
    record {
      only = λ path is.
          elim (by_tie (had path) (tie path) {P = key ≡ path} {Q = PathIn path files} (sym (updates path) ∙ is) (λ same. equal_paths key path same) (λ was. has.only path was)) [
            | inl same ↦ subst (λ (p : List (List ℕ)). PathIn p (files ++ file ∷ [])) (sym named ∙ same) (in_last files file)
            | inr here ↦ in_longer files (file ∷ []) path here
          ];
      each = λ path here.
          elim (from_longer files file path here) [
            | inl there ↦ updates path ∙ still (had path) (tie path) (has.each path there)
            | inr same ↦
                let tied : tie path ≡ true = subst (λ (p : List (List ℕ)). tie p ≡ true) (named ∙ same) (ap is_eq (tied_itself (lists_total nat_list_cmp_total) key)) in
                updates path ∙ ap (λ (b : Bool). cond b true (had path)) tied
          ];
    }
