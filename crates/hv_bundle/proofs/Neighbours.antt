-- In the order of names, what lies between a path and one that lies in it lies in it too.
use Rattle.std.proofs.Common.{◌≡◌, ℕ, List, [], ◌∷◌, ◌++◌, Bool, true, false, not, refl, sym, ap, subst, ◌∙◌}
use Rattle.std.specs.Prelude.{IsTrue, ◌↔◌}
use Rattle.std.proofs.lemmas.Bool.{true≢false, false≢true}
use Rattle.std.specs.declared.cmp.Ordering.{Ordering}
use Rattle.std.specs.declared.cmp.Ordering.TheVariants.{Less, Equal, Greater}
use Rattle.std.specs.Ordering.{nat_cmp, ordering_then, ordering_reverse, is_gt, is_lt, is_eq}
use Rattle.std.specs.Cmp.Lexicographic.{slice_cmp, bytes_decides, nat_list_cmp_total, lists_total, texts_ties}
use Rattle.std.specs.BTreeSet.{BTreeSet}
use Rattle.std.specs.BTreeMap.Range.{IsLeBy}
use Rattle.std.proofs.lemmas.Cmp.{tied_itself}
use Rattle.hv_text.specs.Path.{IsPathPrefix}
use Rattle.hv_bundle.specs.Bundle.{AreApart}
use Rattle.hv_bundle.specs.Taken.{IsTaken, AreAllApart}

abbrev name_cmp : List ℕ → List ℕ → Ordering
name_cmp one other = slice_cmp nat_cmp one other

abbrev path_cmp : List (List ℕ) → List (List ℕ) → Ordering
path_cmp one other = slice_cmp (slice_cmp nat_cmp) one other

equal_names : (one other : List ℕ) → name_cmp one other ≡ Equal → one ≡ other
equal_names one other tie = (bytes_decides one other).0 (texts_ties one other ∙ ap is_eq tie)

-- a path is at most what lies in it
pub folder_first : (path rest : List (List ℕ)) → IsLeBy (slice_cmp (slice_cmp nat_cmp)) path (path ++ rest)
folder_first [] [] = refl
folder_first [] (n ∷ rest) = refl
folder_first (n ∷ path) rest =
    let tie : name_cmp n n ≡ Equal = tied_itself nat_list_cmp_total n in
    subst (λ (o : Ordering). is_gt (ordering_then o (path_cmp path (path ++ rest))) ≡ false) (sym tie) (folder_first path rest)

by_first_name : (n m : List ℕ) (path rest found : List (List ℕ)) (o : Ordering) → o ≡ name_cmp n m → is_gt (ordering_then o (path_cmp path found)) ≡ false → is_gt (ordering_then (ordering_reverse o) (path_cmp found (path ++ rest))) ≡ false
    → (is_gt (path_cmp path found) ≡ false → is_gt (path_cmp found (path ++ rest)) ≡ false → IsPathPrefix path found) → IsPathPrefix (n ∷ path) (m ∷ found)
by_first_name n m path rest found Less is up down more = absurd (true≢false down)
by_first_name n m path rest found Equal is up down more =
    let front = more up down in
    let same : m ≡ n = sym (equal_names n m (sym is)) in
    (front.0, λ i. same i ∷ front.1 i)
by_first_name n m path rest found Greater is up down more = absurd (true≢false up)

-- what lies between a path and one in it lies in it
pub between : (path rest found : List (List ℕ)) → IsLeBy (slice_cmp (slice_cmp nat_cmp)) path found → IsLeBy (slice_cmp (slice_cmp nat_cmp)) found (path ++ rest) → IsPathPrefix path found
between [] rest found up down = (found, refl)
between (n ∷ path) rest [] up down = absurd (true≢false up)
between (n ∷ path) rest (m ∷ found) up down =
    by_first_name n m path rest found (name_cmp n m) refl up
    (subst (λ (o : Ordering). is_gt (ordering_then o (path_cmp found (path ++ rest))) ≡ false) (nat_list_cmp_total.antisymm m n) down)
    (λ u d. between path rest found u d)

reversed : (o : Ordering) → is_gt (ordering_reverse o) ≡ is_lt o
reversed Less = refl
reversed Equal = refl
reversed Greater = refl

-- the other way round
pub not_below : (one other : List (List ℕ)) → is_lt (path_cmp one other) ≡ false → IsLeBy (slice_cmp (slice_cmp nat_cmp)) other one
not_below one other h = ap is_gt ((lists_total nat_list_cmp_total).antisymm other one) ∙ reversed (path_cmp one other) ∙ h

-- the least taken path that isn't below this one lies in it, or none does
pub least_decides : (taken : BTreeSet (List (List ℕ))) (path found : List (List ℕ)) (b : Bool) → IsTaken taken found → IsLeBy (slice_cmp (slice_cmp nat_cmp)) path found
    → ((one : List (List ℕ)) → IsLeBy (slice_cmp (slice_cmp nat_cmp)) path one → IsTaken taken one → IsLeBy (slice_cmp (slice_cmp nat_cmp)) found one)
    → (IsTrue b → IsPathPrefix path found) → (IsPathPrefix path found → IsTrue b) → IsTrue b ↔ ((one : List (List ℕ)) × IsTaken taken one × IsPathPrefix path one)
least_decides taken path found b is_taken up least whenever back = (
  λ t. (found, is_taken, whenever t),
  λ one. let in_path : one.0 ≡ path ++ one.2.0 = one.2.1 in
      let path_up : IsLeBy (slice_cmp (slice_cmp nat_cmp)) path one.0 = subst (IsLeBy (slice_cmp (slice_cmp nat_cmp)) path) (sym in_path) (folder_first path one.2.0) in
      let down : IsLeBy (slice_cmp (slice_cmp nat_cmp)) found (path ++ one.2.0) = subst (IsLeBy (slice_cmp (slice_cmp nat_cmp)) found) in_path (least one.0 path_up one.1) in
      back (between path one.2.0 found up down),
)

-- with no such path, none lies in it
pub none_in_folder : (taken : BTreeSet (List (List ℕ))) (path : List (List ℕ)) → ((one : List (List ℕ)) → IsLeBy (slice_cmp (slice_cmp nat_cmp)) path one → IsTaken taken one → ⊥) → IsTrue false ↔ ((one : List (List ℕ)) × IsTaken taken one × IsPathPrefix path one)
none_in_folder taken path none = (
  λ t. absurd (false≢true t),
  λ one. absurd (none one.0 (subst (IsLeBy (slice_cmp (slice_cmp nat_cmp)) path) (sym one.2.1) (folder_first path one.2.0)) one.1),
)

-- this path lies in the greatest taken one that isn't above it, or in none
pub greatest_decides : (taken : BTreeSet (List (List ℕ))) (path found : List (List ℕ)) (b : Bool) → AreAllApart taken → IsTaken taken found → IsLeBy (slice_cmp (slice_cmp nat_cmp)) found path
    → ((one : List (List ℕ)) → IsLeBy (slice_cmp (slice_cmp nat_cmp)) one path → IsTaken taken one → IsLeBy (slice_cmp (slice_cmp nat_cmp)) one found)
    → (IsTrue b → IsPathPrefix found path) → (IsPathPrefix found path → IsTrue b) → IsTrue b ↔ ((one : List (List ℕ)) × IsTaken taken one × IsPathPrefix one path)
greatest_decides taken path found b apart is_taken up greatest whenever back = (
  λ t. (found, is_taken, whenever t),
  λ one. let in_one : path ≡ one.0 ++ one.2.0 = one.2.1 in
      let one_up : IsLeBy (slice_cmp (slice_cmp nat_cmp)) one.0 path = subst (IsLeBy (slice_cmp (slice_cmp nat_cmp)) one.0) (sym in_one) (folder_first one.0 one.2.0) in
      let down : IsLeBy (slice_cmp (slice_cmp nat_cmp)) found (one.0 ++ one.2.0) = subst (IsLeBy (slice_cmp (slice_cmp nat_cmp)) found) in_one up in
      let above = between one.0 one.2.0 found (greatest one.0 one_up one.1) down in
      let same : one.0 ≡ found = apart one.0 found one.1 is_taken above in
      back (subst (λ (p : List (List ℕ)). IsPathPrefix p path) same one.2),
)

-- with no such path, it lies in none
pub none_above : (taken : BTreeSet (List (List ℕ))) (path : List (List ℕ)) → ((one : List (List ℕ)) → IsLeBy (slice_cmp (slice_cmp nat_cmp)) one path → IsTaken taken one → ⊥) → IsTrue false ↔ ((one : List (List ℕ)) × IsTaken taken one × IsPathPrefix one path)
none_above taken path none = (
  λ t. absurd (false≢true t),
  λ one. absurd (none one.0 (subst (IsLeBy (slice_cmp (slice_cmp nat_cmp)) one.0) (sym one.2.1) (folder_first one.0 one.2.0)) one.1),
)

not_both : (b : Bool) → IsTrue b → IsTrue (not b) → ⊥
not_both true t f = false≢true f
not_both false t f = false≢true t

either : (b : Bool) → (IsTrue b → ⊥) → IsTrue (not b)
either true none = absurd (none refl)
either false none = refl

-- a path that lies in no taken one is free exactly where none lies in it
pub free_exactly : (taken : BTreeSet (List (List ℕ))) (path : List (List ℕ)) (b : Bool) → (((one : List (List ℕ)) × IsTaken taken one × IsPathPrefix one path) → ⊥) → IsTrue b ↔ ((one : List (List ℕ)) × IsTaken taken one × IsPathPrefix path one)
    → IsTrue (not b) ↔ ((one : List (List ℕ)) → IsTaken taken one → AreApart one path)
free_exactly taken path b none exactly = (
  λ free one is_taken. record {
    not_above = λ above. none (one, is_taken, above);
    not_below = λ below. not_both b (exactly.1 (one, is_taken, below)) free;
  },
  λ apart. either b (λ t. let one = exactly.0 t in (apart one.0 one.1).not_below one.2),
)
