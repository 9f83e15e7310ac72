-- Digits, one after the other.
use Rattle.std.proofs.Common.{◌≡◌, ℕ, suc, ◌+◌, ◌^◌, ◌<◌, true, false, eqb, ltb, inl, inr, sym, ◌∙◌, List, [], ◌∷◌, length, take, refl, subst, arith}
use Rattle.std.specs.Prelude.{SomeIff, Option, Some, None}
use Rattle.std.proofs.lemmas.Bool.{cases_lt, cond-true, cond-false, lt-ltb, le-ltb, eq-eqb}
use Rattle.std.specs.Char.{digit_value}
use Rattle.std.specs.Str.Parse.{AllDigits, digits_value}
use Rattle.hv_text.specs.Number.{digits_front}
use Rattle.hv_dtlex.specs.Values.{cell_of}

more : (n : ℕ) → 1 + n ≡ suc n
more n = omega arith

-- the front of a text up to its first byte that is no digit has digits only
pub front_each : (radix : ℕ) (ds : List ℕ) → AllDigits radix (take (digits_front radix ds) ds)
front_each radix [] = tt
front_each radix (d ∷ ds) = elim (cases_lt (digit_value d) radix) [
  | inl lt ↦
      let run : suc (digits_front radix ds) ≡ digits_front radix (d ∷ ds) = sym (cond-true _ _ _ (lt-ltb _ _ lt) ∙ more (digits_front radix ds)) in
      let both : AllDigits radix (take (suc (digits_front radix ds)) (d ∷ ds)) = (lt, front_each radix ds) in
      subst (λ (n : ℕ). AllDigits radix (take n (d ∷ ds))) run both
  | inr le ↦
      let none : 0 ≡ digits_front radix (d ∷ ds) = sym (cond-false _ _ _ (le-ltb _ _ le)) in
      subst (λ (n : ℕ). AllDigits radix (take n (d ∷ ds))) none tt
]

-- a value that fits 32 bits, or none
pub cell_of_is : (radix : ℕ) (ds : List ℕ) (r : Option ℕ) → digits_front radix ds ≡ length ds → 0 < length ds → SomeIff r (digits_value radix ds < 2 ^ 32) (digits_value radix ds) → r ≡ cell_of radix ds
unfolding cell_of
cell_of_is radix ds None e some h =
    let whole : eqb (digits_front radix ds) (length ds) ≡ true = eq-eqb _ _ e in
    let there : ltb 0 (length ds) ≡ true = lt-ltb _ _ some in
    let large : ltb (digits_value radix ds) (2 ^ 32) ≡ false = le-ltb _ _ (omega (arith, h)) in
    rw (there, whole, large) refl
cell_of_is radix ds (Some n) e some h =
    let whole : eqb (digits_front radix ds) (length ds) ≡ true = eq-eqb _ _ e in
    let there : ltb 0 (length ds) ≡ true = lt-ltb _ _ some in
    let fits : ltb (digits_value radix ds) (2 ^ 32) ≡ true = lt-ltb _ _ h.0 in
    rw (there, whole, fits, h.1) refl
