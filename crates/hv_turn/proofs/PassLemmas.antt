-- Facts about the handles of a lock in a list.
use Rattle.std.proofs.Common.{◌≡◌, ◌≢◌, ◌⊎◌, ℕ, zero, suc, ◌+◌, ◌-◌, ◌<◌, false, List, [], ◌∷◌, ◌++◌, length, drop, sym, refl, ap, ◌∙◌, inl, inr, subst, ⊎_elim, arith, Option, Some, None, slice_get}
use mathlib.Core.Option.{some}
use lib.ListN.{get_elem?}
use Rattle.std.specs.List.{AllByRecursion}
use Rattle.atomic_table.specs.Seated.{TableId}
use Rattle.atomic_table.specs.Table.{Me}
use Rattle.atomic_table.proofs.Lists.{at_longer, at_last}
use Rattle.hv_turn.specs.declared.rule.PassState.{PassState}
use Rattle.hv_turn.specs.declared.rule.SeatView.{SeatView}
use Rattle.hv_turn.specs.History.{IsLater}
use Rattle.hv_turn.specs.Passes.{TurnView, PassView, new_pass, AreGathered, IsNamedBelow, IsEnded}
use Rattle.hv_turn.specs.Rule.{StartsWith, pass_state, seat_view, one_pass, passes_from, all_from, first_pass, seen_by, first_alone, without_first, joined, pass_view, IsPass, AreOutside, state_of, Covers}
use Rattle.hv_turn.proofs.RuleLemmas.{in_passes_from}

some_is : {A : Type 0} (x y : A) → Some x ≡ Some y → x ≡ y
some_is x y e = cc

no_some : {A X : Type 0} (x : A) → None ≡ Some x → X
no_some x e = cc

module _ {A : Type 0} where
  get_snoc : (xs : List A) (x p : A) (k n : ℕ) → length xs ≡ n → slice_get (xs ++ x ∷ []) k ≡ Some p → (slice_get xs k ≡ Some p) ⊎ ((k ≡ n) × (x ≡ p))
  get_snoc [] x p zero n long e = inr (long, some_is x p e)
  get_snoc [] x p (suc k) n long e = no_some p e
  get_snoc (y ∷ xs) x p zero n long e = inl e
  get_snoc (y ∷ xs) x p (suc k) zero long e = absurd (omega arith)
  get_snoc (y ∷ xs) x p (suc k) (suc n) long e = ⊎_elim (λ h. inl h) (λ t. let same = t.0 in inr (omega arith, t.1)) (get_snoc xs x p k n (omega arith) e)

  get_there : (xs : List A) (k : ℕ) → k < length xs → (a : A) × (slice_get xs k ≡ Some a)
  get_there [] k h = absurd (omega arith)
  get_there (x ∷ xs) zero h = (x, refl)
  get_there (x ∷ xs) (suc k) h = get_there xs k (omega arith)

  still_at : (all more : List A) (i : ℕ) (a : A) → StartsWith more all → get_elem? all i ≡ some a → get_elem? more i ≡ some a
  still_at all more i a h e = subst (λ l. get_elem? l i ≡ some a) (sym h.1) (at_longer all h.0 i a e)

module _ {E : Type 0} where
  step_from : (j m : ℕ) (seen : List E) → 0 < m → passes_from j m seen ≡ pass_state j seen ∷ passes_from (j + 1) (m - 1) seen
  step_from j zero seen h = absurd (omega arith)
  step_from j (suc m) seen h = λ i. pass_state j seen ∷ passes_from ((let e : suc j ≡ j + 1 = omega arith in e) i) ((let e : m ≡ suc m - 1 = omega arith in e) i) seen

  -- a seat with all handles from a number on has that handle and the later ones
  pub all_from-step : (j m : ℕ) (seen : List E) → 0 < m → all_from j m seen ≡ seat_view false (pass_state j seen ∷ passes_from (j + 1) (m - 1) seen)
  all_from-step j m seen h = ap (seat_view false) (step_from j m seen h)

  pub later_numbers : (j m : ℕ) (seen : List E) (i : ℕ) (p : PassState E) → get_elem? (passes_from (j + 1) m seen) i ≡ some p → p.number ≢ j
  later_numbers j m seen i p e same = let t = in_passes_from (λ (l : List E). l) (λ _. None) 0 (j + 1) m seen i p e in let n : p.number ≡ (j + 1) + i = ap (λ (q : PassState E). q.number) t.0 in absurd (omega arith)

  -- one new handle more, in the order of the numbers
  pub dealt_more : (id : TableId) (seen : List E) (xs : List (PassView E)) (x : PassView E) (n : ℕ) → length xs ≡ n
      → ((k : ℕ) (p : PassView E) → slice_get xs k ≡ Some p → p ≡ new_pass id k seen)
      → x ≡ new_pass id n seen
      → (k : ℕ) (p : PassView E) → slice_get (xs ++ x ∷ []) k ≡ Some p → p ≡ new_pass id k seen
  dealt_more id seen xs x n long old new k p e = ⊎_elim (λ h. old k p h)
      (λ (t : (k ≡ n) × (x ≡ p)). sym t.1 ∙ (new ∙ ap (λ (z : ℕ). new_pass id z seen) (sym t.0)))
      (get_snoc xs x p k n long e)

  pub outside_at : (id : TableId) (xs : List (PassView E)) (p : PassView E) (ys : List (PassView E)) → AreOutside id (xs ++ (p ∷ ys)) → (p.turn ≡ id) × (p.inside ≡ false)
  outside_at id [] p ys h = (h.0, h.1)
  outside_at id (x ∷ xs) p ys h = outside_at id xs p ys h.2

  outside_each : (id : TableId) (ps : List (PassView E)) → ((k : ℕ) (p : PassView E) → slice_get ps k ≡ Some p → (p.turn ≡ id) × (p.inside ≡ false)) → AreOutside id ps
  outside_each id [] h = tt
  outside_each id (p ∷ ps) h = let t = h 0 p refl in (t.0, t.1, outside_each id ps (λ k q e. h (suc k) q e))

  -- all handles of a lock are its own and outside
  pub gathered_outside : (turn : TurnView) (ps : List (PassView E)) → AreGathered turn ps → AreOutside turn.id ps
  gathered_outside turn ps g = outside_each turn.id ps (λ k p e. let t = g.each k p e in (t.turn, t.outside))

  pub outside_front : (id : TableId) (xs ys : List (PassView E)) → AreOutside id (xs ++ ys) → AreOutside id xs
  outside_front id [] ys h = tt
  outside_front id (x ∷ xs) ys h = (h.0, h.1, outside_front id xs ys h.2)

  pub covers_more : (all more : List (PassState E)) (ps : List (PassView E)) → StartsWith more all → Covers all ps → Covers more ps
  covers_more all more [] h c = tt
  covers_more all more (p ∷ ps) h c = ((c.0.0, still_at all more c.0.0 (state_of p) h c.0.1), covers_more all more ps h c.1)

  covers_at : (all : List (PassState E)) (ps : List (PassView E)) (k : ℕ) (p : PassView E) → Covers all ps → slice_get ps k ≡ Some p → (i : ℕ) × (get_elem? all i ≡ some (state_of p))
  covers_at all [] k p c e = no_some p e
  covers_at all (q ∷ ps) zero p c e = (c.0.0, c.0.1 ∙ ap (λ (x : PassView E). some (state_of x)) (some_is q p e))
  covers_at all (q ∷ ps) (suc k) p c e = covers_at all ps k p c.1 e

  pub covers_snoc : (all : List (PassState E)) (ps : List (PassView E)) (p : PassView E) → Covers all ps → ((i : ℕ) × (get_elem? all i ≡ some (state_of p))) → Covers all (ps ++ p ∷ [])
  covers_snoc all [] p c t = (t, tt)
  covers_snoc all (q ∷ ps) p c t = (c.0, covers_snoc all ps p c.1 t)

  pub seen_first : (count : ℕ) (seen : List E) → 0 < count → seen_by (all_from 0 count seen) ≡ seen
  seen_first zero seen h = absurd (omega arith)
  seen_first (suc count) seen h = refl

  -- where a seat has all handles of a lock, each number below their count is of one of them
  pub numbers : (turn : TurnView) (all : List (PassState E)) (ps : List (PassView E)) → AreGathered turn ps → Covers all ps → (k : ℕ) → k < turn.passes → (i : ℕ) × (p : PassState E) × (get_elem? all i ≡ some p) × (p.number ≡ k)
  numbers turn all ps g c k below = let long = g.count in let t = get_there ps k (omega arith) in let at = covers_at all ps k t.0 c t.1 in (at.0, state_of t.0, at.1, (g.each k t.0 t.1).number)

  pub ended : (names : E → Option ℕ) (turn : TurnView) (all : List (PassState E)) (ps : List (PassView E)) (history : List E) → AreGathered turn ps → Covers all ps
      → ((i : ℕ) (p : PassState E) → get_elem? all i ≡ some p → IsLater names p.number p.seen history)
      → AllByRecursion (IsNamedBelow names turn.passes) (drop 1 history) → IsEnded names ps history
  ended names turn all ps history g c each named = record {
    each = λ k p e. let at = covers_at all ps k p c e in each at.0 (state_of p) at.1;
    named = subst (λ n. AllByRecursion (IsNamedBelow names n) (drop 1 history)) (sym g.count) named;
  }

module _ {T E : Type 0} where
  -- what is left in the seat once the first handle went to a seat of its own
  pub dealt_left : (m m' : Me (Option T) (SeatView E)) (j k j' k' : ℕ) (seen : List E) → 0 < k → m ≡ (all_from j k seen, []) → m' ≡ (without_first m.0, m.1) → j' ≡ j + 1 → k' ≡ k - 1 → m' ≡ (all_from j' k' seen, [])
  dealt_left m m' j k j' k' seen some_left is now up down =
      now ∙ ((λ i. let x : Me (Option T) (SeatView E) = is i in let y : Me (Option T) (SeatView E) = (without_first x.0, x.1) in y)
      ∙ ((λ i. let y : Me (Option T) (SeatView E) = (without_first (all_from-step j k seen some_left i), []) in y)
      ∙ (λ i. let y : Me (Option T) (SeatView E) = (all_from (sym up i) (sym down i) seen, []) in y)))

  -- and that seat
  pub dealt_right : (m r : Me (Option T) (SeatView E)) (j k : ℕ) (seen : List E) → 0 < k → m ≡ (all_from j k seen, []) → r ≡ (first_alone m.0, []) → r ≡ (one_pass false (pass_state j seen), [])
  dealt_right m r j k seen some_left is now =
      now ∙ ((λ i. let x : Me (Option T) (SeatView E) = is i in let y : Me (Option T) (SeatView E) = (first_alone x.0, []) in y)
      ∙ (λ i. let y : Me (Option T) (SeatView E) = (first_alone (all_from-step j k seen some_left i), []) in y))

  -- a seat that another was joined into is outside still
  pub joined_me : (m o m' : Me (Option T) (SeatView E)) → m ≡ (seat_view false m.0.passes, []) → m' ≡ (joined m.0 o.0, m.1) → m' ≡ (seat_view false m'.0.passes, [])
  joined_me m o m' is now = subst (λ (x : Me (Option T) (SeatView E)). x ≡ (seat_view false x.0.passes, [])) (sym now) (λ i. (seat_view false (m.0.passes ++ o.0.passes), (is i).1))

  -- and has the other's handle
  pub joined_covers : (id : TableId) (all : List (PassState E)) (o : Me (Option T) (SeatView E)) (p : PassView E) → IsPass o → pass_view id o ≡ p → (i : ℕ) × (get_elem? (all ++ o.0.passes) i ≡ some (state_of p))
  joined_covers id all o p is view =
      let b : PassState E = first_pass o.0.passes in
      let one : o.0.passes ≡ b ∷ [] = ap (λ (x : Me (Option T) (SeatView E)). x.0.passes) is in
      (length all, subst (λ l. get_elem? (all ++ l) (length all) ≡ some (state_of p)) (sym one) (at_last all b (length all) refl ∙ ap (λ (q : PassView E). some (state_of q)) view))

  -- and its own
  pub last_first : (all : List (PassState E)) (id : TableId) (m : Me (Option T) (SeatView E)) (p : PassView E) → IsPass m → pass_view id m ≡ p → StartsWith all m.0.passes → (i : ℕ) × (get_elem? all i ≡ some (state_of p))
  last_first all id m p is view more =
      let one : m.0.passes ≡ first_pass m.0.passes ∷ [] = ap (λ (x : Me (Option T) (SeatView E)). x.0.passes) is in
      (0, still_at m.0.passes all 0 (state_of p) more (ap (λ l. get_elem? l 0) one ∙ ap (λ (q : PassView E). some (state_of q)) view))
