-- Searches among windows, one after the other.
use Rattle.std.proofs.Common.{◌≡◌, ℕ, suc, ◌+◌, ◌<◌, List, [], ◌∷◌, length, get_or, drop, drop-cons, Bool, true, false, cond, ap, ◌∙◌, arith, Some, None, slice_get}
use Rattle.std.specs.List.{find}
use Rattle.std.proofs.lemmas.List.{drop_all}
use Rattle.std.proofs.lemmas.Option.{slice_get_within, get_or_from_slice_get}
use Rattle.hv_region.specs.declared.window.Window.{Window}
use Rattle.hv_guest_steps.proofs.Told.{past_all}

module _ {A : Type 0} where
  -- what begins at an index is the element there and what begins behind it
  pub drop_at : (xs : List A) (i : ℕ) (x : A) → slice_get xs i ≡ Some x → drop i xs ≡ x ∷ drop (i + 1) xs
  drop_at xs i x is =
      let within : i < length xs = slice_get_within xs i x is in
      let there : get_or xs i x ≡ x = get_or_from_slice_get xs i x x is in
      let next : suc i ≡ i + 1 = omega arith in
      drop-cons xs i x within ∙ (ap (λ (y : A). y ∷ drop (suc i) xs) there ∙ ap (λ (n : ℕ). x ∷ drop n xs) next)

  -- nothing begins behind the last element
  pub drop_past : (xs : List A) (i : ℕ) → slice_get xs i ≡ None → drop i xs ≡ []
  drop_past xs i is = drop_all i xs (past_all xs i is)

-- a search by place

module _ (p : Window → Bool) (xs : List Window) (i : ℕ) where
  pub found_here : (x : Window) → slice_get xs i ≡ Some x → p x ≡ true → find p xs ≡ find p (drop i xs) → find p xs ≡ Some x
  found_here x is passes so =
      so ∙ (ap (find p) (drop_at xs i x is) ∙ ap (λ (b : Bool). cond b (Some x) (find p (drop (i + 1) xs))) passes)

  pub found_later : (x : Window) → slice_get xs i ≡ Some x → p x ≡ false → find p xs ≡ find p (drop i xs) → find p xs ≡ find p (drop (i + 1) xs)
  found_later x is fails so =
      so ∙ (ap (find p) (drop_at xs i x is) ∙ ap (λ (b : Bool). cond b (Some x) (find p (drop (i + 1) xs))) fails)

  pub found_nowhere : slice_get xs i ≡ None → find p xs ≡ find p (drop i xs) → find p xs ≡ None
  found_nowhere is so = so ∙ ap (find p) (drop_past xs i is)
