-- Digits, one after the other.
use Rattle.std.proofs.Common.{◌≡◌, ℕ, zero, suc, ◌+◌, ◌*◌, ◌^◌, ◌<◌, ◌≤◌, Bool, ◌&&◌, true, false, eqb, ltb, inl, inr, sym, ◌∙◌, List, [], ◌∷◌, length, drop, get_or, refl, arith}
use Rattle.std.proofs.Math.Nat.{mul-le-mul_left}
use Rattle.std.specs.Prelude.{SomeIff, ok_or, Option, Some, None, Ok, nat_eq}
use Rattle.std.proofs.lemmas.Bool.{cases_lt, cond-true, cond-false, lt-ltb, le-ltb, eq-eqb, ne_eqb}
use Rattle.std.proofs.lemmas.Str.Parse.{digit_from_value}
use Rattle.std.proofs.lemmas.Fmt.{decimal_is_IsNumeral}
use Rattle.std.specs.Fmt.{decimal}
use Rattle.std.specs.List.{starts_with}
use Rattle.std.specs.Char.{digit_value}
use Rattle.hv_text.specs.declared.number.NumberRefusal.TheVariants.{TooLarge}
use Rattle.hv_text.specs.Number.{digits_front, number_in, number_of}
use Rattle.std.specs.Str.Parse.{AllDigits, digits_value, digits_value_after}

pub record Step (radix value d : ℕ) (ds more : List ℕ) : Type 0 where
  pub digit : digit_value d < radix
  pub each : AllDigits radix more
  pub total : digits_value_after radix value ds ≡ digits_value_after radix (value * radix + digit_value d) more

pub step : (radix value i : ℕ) (ds : List ℕ) → i < length ds → AllDigits radix (drop i ds) → Step radix value (get_or ds i 0) (drop i ds) (drop (suc i) ds)
step radix value i [] lt each = absurd (omega arith)
step radix value zero (d ∷ ds) lt each = record { digit = each.0; each = each.1; total = refl }
step radix value (suc i) (d ∷ ds) lt each = step radix value i ds (omega arith) each

-- what is read on is no less
pub no_less : (radix value : ℕ) (ds : List ℕ) → 0 < radix → value ≤ digits_value_after radix value ds
no_less radix value [] pos = omega arith
no_less radix value (d ∷ ds) pos =
    let one : value * 1 ≤ value * radix = mul-le-mul_left value pos in
    let here : value ≤ value * radix + digit_value d = omega (arith, one) in
    let there = no_less radix (value * radix + digit_value d) ds pos in
    omega (arith, here, there)

pub passes : (radix value i : ℕ) (ds : List ℕ) → i < length ds → AllDigits radix (drop i ds) → 0 < radix → value * radix + digit_value (get_or ds i 0) ≤ digits_value_after radix value (drop i ds)
passes radix value i ds lt each pos =
    let s = step radix value i ds lt each in
    omega (arith, s.total, no_less radix (value * radix + digit_value (get_or ds i 0)) (drop (suc i) ds) pos)

-- a run of digits has digits only
pub each_digit : (radix : ℕ) (ds : List ℕ) → digits_front radix ds ≡ length ds → AllDigits radix ds
each_digit radix [] e = tt
each_digit radix (d ∷ ds) e = elim (cases_lt (digit_value d) radix) [
  | inl lt ↦
      let e2 : 1 + digits_front radix ds ≡ suc (length ds) = sym (cond-true _ _ _ (lt-ltb _ _ lt)) ∙ e in
      (lt, each_digit radix ds (omega arith))
  | inr le ↦
      let e2 : 0 ≡ suc (length ds) = sym (cond-false _ _ _ (le-ltb _ _ le)) ∙ e in
      absurd (omega arith)
]

pub number_in_is : (radix start : ℕ) (ds : List ℕ) (r : Option ℕ) → digits_front radix ds ≡ length ds → 0 < length ds → SomeIff r (digits_value radix ds < 2 ^ 64) (digits_value radix ds)
    → ok_or r TooLarge ≡ number_in radix start ds
number_in_is radix start ds None e some h =
    let whole : eqb (digits_front radix ds) (length ds) ≡ true = eq-eqb _ _ e in
    let there : ltb 0 (digits_front radix ds) ≡ true = lt-ltb _ _ (omega arith) in
    let large : ltb (digits_value radix ds) (2 ^ 64) ≡ false = le-ltb _ _ (omega (arith, h)) in
    rw (whole, there, large) refl
number_in_is radix start ds (Some n) e some h =
    let whole : eqb (digits_front radix ds) (length ds) ≡ true = eq-eqb _ _ e in
    let there : ltb 0 (digits_front radix ds) ≡ true = lt-ltb _ _ (omega arith) in
    let fits : ltb (digits_value radix ds) (2 ^ 64) ≡ true = lt-ltb _ _ h.0 in
    rw (whole, there, fits, h.1) refl

pub front_all : (radix : ℕ) (ds : List ℕ) → AllDigits radix ds → digits_front radix ds ≡ length ds
front_all radix [] each = refl
front_all radix (d ∷ ds) each = cond-true _ _ _ (lt-ltb _ _ each.0) ∙ omega (arith, front_all radix ds each.1)

and_false : (b : Bool) → (b && false) ≡ false
and_false true = refl
and_false false = refl

not_hex : (ds : List ℕ) → AllDigits 10 ds → starts_with nat_eq ds (48 ∷ 120 ∷ []) ≡ false
not_hex [] each = refl
not_hex (d ∷ []) each = and_false (eqb 48 d)
not_hex (d ∷ e ∷ ds) each =
    let digit = digit_from_value e each.1.0 in
    let apart : eqb 120 e ≡ false = ne_eqb 120 e (λ is. omega (arith, digit)) in
    rw apart (and_false (eqb 48 d))

-- a decimal text is read as its number
pub number_of-decimal : (n : ℕ) → n < 2 ^ 64 → number_of (decimal n) ≡ Ok n
number_of-decimal n lt =
    let both = decimal_is_IsNumeral n lt in
    let plain : starts_with nat_eq (decimal n) (48 ∷ 120 ∷ []) ≡ false = not_hex (decimal n) both.0.1 in
    let whole : digits_front 10 (decimal n) ≡ length (decimal n) = front_all 10 (decimal n) both.0.1 in
    let value : SomeIff (Some n) (digits_value 10 (decimal n) < 2 ^ 64) (digits_value 10 (decimal n)) = (omega (arith, both.1), sym both.1) in
    rw plain (sym (number_in_is 10 0 (decimal n) (Some n) whole both.0.0 value))
