-- The least row whose window is met, one window after the other.
use Rattle.std.proofs.Common.{◌≡◌, ℕ, ◌+◌, List, ◌∷◌, Bool, true, false, cond, drop, refl, sym, ap, ◌∙◌, arith, subst, Option, Some, None, slice_get}
use Rattle.std.specs.Prelude.{filter}
use Rattle.std.proofs.lemmas.Option.{slice_get_within, get_or_from_slice_get}
use Rattle.hv_region.specs.Windows.{AreWindows, IsWindow}
use Rattle.hv_region.specs.declared.window.Window.{Window}
use Rattle.hv_rules.specs.Space.{least_row, lesser}
use Rattle.hv_guest_steps.proofs.Searches.{drop_at, drop_past}

-- the lesser of a row found before, if any, and of the others' least
abbrev pub joined : Option ℕ → Option ℕ → Option ℕ
joined None rest = rest
joined (Some row) rest = Some (lesser row rest)

two : (owner : ℕ) (least rest : Option ℕ) → joined least (Some (lesser owner rest)) ≡ Some (lesser (lesser owner least) rest)
two owner None rest = refl
two owner (Some row) None = ap Some (omega arith)
two owner (Some row) (Some other) = ap Some (omega arith)

either : (b : Bool) (there : Window) (rest : List Window) (least : Option ℕ)
    → joined least (least_row (cond b (there ∷ rest) rest)) ≡ joined (cond b (Some (lesser there.owner least)) least) (least_row rest)
either true there rest least = two there.owner least (least_row rest)
either false there rest least = refl

joined_none : (least : Option ℕ) → joined least None ≡ least
joined_none None = refl
joined_none (Some row) = refl

module _ (p : Window → Bool) (xs : List Window) (i : ℕ) (least : Option ℕ) where
  -- one more window
  pub least_next : (x : Window) (next : Option ℕ) → slice_get xs i ≡ Some x → next ≡ cond (p x) (Some (lesser x.owner least)) least
      → least_row (filter p xs) ≡ joined least (least_row (filter p (drop i xs)))
      → least_row (filter p xs) ≡ joined next (least_row (filter p (drop (i + 1) xs)))
  least_next x next is chosen so =
      so
      ∙ (ap (λ (l : List Window). joined least (least_row (filter p l))) (drop_at xs i x is)
      ∙ (either (p x) x (filter p (drop (i + 1) xs)) least
      ∙ ap (λ (o : Option ℕ). joined o (least_row (filter p (drop (i + 1) xs)))) (sym chosen)))

  -- none is left
  pub least_last : slice_get xs i ≡ None → least_row (filter p xs) ≡ joined least (least_row (filter p (drop i xs)))
      → least ≡ least_row (filter p xs)
  least_last is so =
      sym (so ∙ (ap (λ (l : List Window). joined least (least_row (filter p l))) (drop_past xs i is) ∙ joined_none least))

-- a window of the list is one
pub window_at_place : (xs : List Window) (i : ℕ) (x : Window) → AreWindows xs → slice_get xs i ≡ Some x → IsWindow x
window_at_place xs i x are is = subst IsWindow (get_or_from_slice_get xs i x x is) (are.each i x (slice_get_within xs i x is))
