-- What a handle's seat holds before and after each step, and what contracts see of it.
use Rattle.std.proofs.Common.{◌≡◌, ℕ, Bool, true, List, [], ◌∷◌, sym, refl, ap, ◌∙◌, subst, Option, Some, None}
use Rattle.atomic_table.specs.Table.{Me, rest}
use Rattle.atomic_table.specs.Seated.{TableId}
use Rattle.hv_turn.specs.declared.rule.PassState.{PassState}
use Rattle.hv_turn.specs.declared.rule.SeatView.{SeatView}
use Rattle.hv_turn.specs.Passes.{PassView}
use Rattle.hv_turn.specs.Rule.{one_pass, having_seen, first_pass, slots_of, pass_view, IsPass}

abbrev slot_or : {T : Type 0} → Option T → List (ℕ × Option T) → Option T
slot_or d [] = d
slot_or d (x ∷ xs) = x.1

module _ {T E : Type 0} where
  -- a handle that is inside, or outside, has its seat so
  pub seat_when : (inside : Bool) (m : Me (Option T) (SeatView E)) → IsPass m → m.0.inside ≡ inside → m ≡ (one_pass inside (first_pass m.0.passes), slots_of inside)
  seat_when inside m is e = is ∙ ap (λ (b : Bool). let x : Me (Option T) (SeatView E) = (one_pass b (first_pass m.0.passes), slots_of b) in x) e

  -- and such a seat is a handle's
  pub still_pass : (inside : Bool) (m : Me (Option T) (SeatView E)) (p : PassState E) (number : ℕ) → m ≡ (one_pass inside p, slots_of inside) → number ≡ p.number → IsPass m × (number ≡ (first_pass m.0.passes).number)
  still_pass inside m p number e is = (subst (λ (x : Me (Option T) (SeatView E)). IsPass x) (sym e) refl, is ∙ sym (ap (λ (x : Me (Option T) (SeatView E)). (first_pass x.0.passes).number) e))

  -- the seat once a value was put into its slot
  pub filled : (m m' : Me (Option T) (SeatView E)) (p : PassState E) (v : T) → m ≡ (one_pass true p, slots_of true) → m' ≡ (m.0, (0, Some v) ∷ rest m.1) → m' ≡ (one_pass true p, (0, Some v) ∷ [])
  filled m m' p v e e' = e' ∙ ap (λ (x : Me (Option T) (SeatView E)). let y : Me (Option T) (SeatView E) = (x.0, (0, Some v) ∷ rest x.1) in y) e

  -- the seat once the value was taken out of its slot
  pub emptied : (m m' : Me (Option T) (SeatView E)) (p : PassState E) (v : T) → m ≡ (one_pass true p, (0, Some v) ∷ []) → m' ≡ (m.0, (0, None) ∷ rest m.1) → m' ≡ (one_pass true p, slots_of true)
  emptied m m' p v e e' = e' ∙ ap (λ (x : Me (Option T) (SeatView E)). let y : Me (Option T) (SeatView E) = (x.0, (0, None) ∷ rest x.1) in y) e

  -- a seat that has a value holds the slot
  pub in_hand : (m : Me (Option T) (SeatView E)) (p : PassState E) (v : T) → m ≡ (one_pass true p, (0, Some v) ∷ []) → (old : Option T) × (m.1 ≡ (0, old) ∷ rest m.1)
  in_hand m p v e = (Some v, subst (λ (x : Me (Option T) (SeatView E)). x.1 ≡ (0, Some v) ∷ rest x.1) (sym e) refl)

  -- and an exchange gives that value
  pub given_back : (m : Me (Option T) (SeatView E)) (p : PassState E) (v : T) (r : Option T) → m ≡ (one_pass true p, (0, Some v) ∷ []) → m.1 ≡ (0, r) ∷ rest m.1 → r ≡ Some v
  given_back m p v r e e' = ap (slot_or None) (sym e' ∙ ap (λ (x : Me (Option T) (SeatView E)). x.1) e)

  -- what contracts see of a handle that has acquired, or released, the lock
  pub view_having_seen : (inside : Bool) (id id' : TableId) (m m' : Me (Option T) (SeatView E)) (p : PassView E) (seen seen' : List E) → pass_view id m ≡ p → id' ≡ id → seen ≡ seen'
      → m' ≡ (one_pass inside (having_seen seen (first_pass m.0.passes)), slots_of inside)
      → pass_view id' m' ≡ record p { inside = inside; seen = seen' }
  view_having_seen inside id id' m m' p seen seen' is same e now =
      (λ i. pass_view (same i) (now i)) ∙ (λ i. let q : PassView E = is i in record q { inside = inside; seen = e i })
