-- Lists that are told one element after the other.
use Rattle.std.proofs.Common.{◌≡◌, ℕ, ◌+◌, ◌<◌, ◌≤◌, List, [], ◌∷◌, ◌++◌, length, take, map, sym, ap, ◌∙◌, arith, inl, inr, Option, Some, None, slice_get}
use Rattle.std.specs.Prelude.{filter_map}
use Rattle.std.specs.List.{cons_option}
use Rattle.std.specs.Option.{option_flatten, option_map}
use Rattle.std.proofs.lemmas.List.{take_more}
use Rattle.std.proofs.lemmas.List.Elements.{filter_map-append}
use Rattle.std.proofs.lemmas.Option.{slice_get_within, get_or_from_slice_get, slice_get_cases}
use mathlib.Core.List.{map-append}

module _ {A : Type 0} where
  -- behind the last element
  pub past_all : (xs : List A) (i : ℕ) → slice_get xs i ≡ None → length xs ≤ i
  past_all xs i is = elim ((slice_get_cases xs i).1) [ inl found ↦ absurd (cc (found.2, is)) | inr past ↦ past.0 ]

  -- one more element is taken
  pub take_next : (xs : List A) (i : ℕ) (x : A) → slice_get xs i ≡ Some x → take (i + 1) xs ≡ take i xs ++ x ∷ []
  take_next xs i x is =
      let within : i < length xs = slice_get_within xs i x is in
      take_more xs i x within ∙ ap (λ (y : A). take i xs ++ y ∷ []) (get_or_from_slice_get xs i x x is)

-- a list is told one by one
pub told_next : {A B : Type 0} (f : A → B) (xs : List A) (i : ℕ) (x : A) (told : List B) → slice_get xs i ≡ Some x → told ≡ map f (take i xs)
    → told ++ f x ∷ [] ≡ map f (take (i + 1) xs)
told_next {B = B} f xs i x told is so =
    ap (λ (l : List B). l ++ f x ∷ []) so ∙ (sym (map-append f (take i xs) (x ∷ [])) ∙ sym (ap (map f) (take_next xs i x is)))

-- and so is a list of places, of which some are empty
pub told_place : {A B : Type 0} (f : A → B) (xs : List (Option A)) (i : ℕ) (place : Option A) (told : List B) → i < length xs
    → place ≡ option_flatten (slice_get xs i) → told ≡ filter_map (option_map f) (take i xs)
    → told ++ cons_option (option_map f place) [] ≡ filter_map (option_map f) (take (i + 1) xs)
told_place {A = A} {B = B} f xs i place told within is so =
    let there : slice_get xs i ≡ Some place =
    elim ((slice_get_cases xs i).1) [
      | inl found ↦ found.2 ∙ ap (λ (o : Option A). Some o) (sym (is ∙ ap option_flatten found.2))
      | inr past ↦ let none = past.0 in absurd (omega arith)
    ] in
    ap (λ (l : List B). l ++ cons_option (option_map f place) []) so
    ∙ (sym (filter_map-append (option_map f) (take i xs) (place ∷ [])) ∙ sym (ap (filter_map (option_map f)) (take_next xs i place there)))
