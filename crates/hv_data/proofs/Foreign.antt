-- Bytes that stand in no word.
use Rattle.std.proofs.Common.{◌≡◌, ◌≢◌, ℕ, ◌+◌, ◌^◌, ◌<◌, ◌≤◌, List, [], ◌∷◌, ◌++◌, subst, inl, inr, arith}
use Rattle.std.specs.Prelude.{◌⊎◌}
use Rattle.std.specs.Int.{IsInRange}
use Rattle.std.specs.List.{AllByRecursion}
use Rattle.std.specs.Char.{digit_char}
use Rattle.std.specs.Fmt.{decimal}
use Rattle.std.specs.Str.Parse.{AllDigits}
use Rattle.std.proofs.lemmas.List.{append-nil}
use Rattle.std.proofs.lemmas.Bool.{cases_lt, cond-true, cond-false, lt-ltb, le-ltb}
use Rattle.std.proofs.lemmas.Fmt.{decimal_is_IsNumeral}
use Rattle.std.proofs.lemmas.Str.Parse.{digit_from_value}
use Rattle.hv_text.specs.Front.{IsFree}
use Rattle.hv_text.specs.Path.{IsNameByte, IsName, ArePathNames, path_text}
use Rattle.hv_text.proofs.Names.{path_text_without}

-- the byte stands in no name and is no slash
pub record IsForeign (d : ℕ) : Type 0 where
  pub name : IsNameByte d → ⊥
  pub slash : 47 ≢ d

-- below a hyphen, or between the digits and the letters
abbrev IsOutside : ℕ → Type 0
IsOutside d = (d < 45) ⊎ ((58 ≤ d) × (d < 65))

no_name_byte : (d : ℕ) → IsOutside d → IsNameByte d → ⊥
no_name_byte d (inl lt) (inl (inl (inl h))) = omega (arith, h)
no_name_byte d (inl lt) (inl (inl (inr h))) = omega (arith, h)
no_name_byte d (inl lt) (inl (inr h)) = omega (arith, h)
no_name_byte d (inl lt) (inr (inl h)) = omega arith
no_name_byte d (inl lt) (inr (inr (inl h))) = omega arith
no_name_byte d (inl lt) (inr (inr (inr h))) = omega arith
no_name_byte d (inr there) (inl (inl (inl h))) = omega (arith, h, there)
no_name_byte d (inr there) (inl (inl (inr h))) = omega (arith, h, there)
no_name_byte d (inr there) (inl (inr h)) = omega (arith, h, there)
no_name_byte d (inr there) (inr (inl h)) = omega (arith, there)
no_name_byte d (inr there) (inr (inr (inl h))) = omega (arith, there)
no_name_byte d (inr there) (inr (inr (inr h))) = omega (arith, there)

foreign : (d : ℕ) → IsOutside d → IsForeign d
foreign d (inl lt) = record { name = no_name_byte d (inl lt); slash = λ e. omega arith }
foreign d (inr there) = record { name = no_name_byte d (inr there); slash = λ e. omega (arith, there) }

pub space_foreign : IsForeign 32
space_foreign = foreign 32 (inl (omega arith))

pub comma_foreign : IsForeign 44
comma_foreign = foreign 44 (inl (omega arith))

pub colon_foreign : IsForeign 58
colon_foreign = foreign 58 (inr (omega arith, omega arith))

pub greater_foreign : IsForeign 62
greater_foreign = foreign 62 (inr (omega arith, omega arith))

pub free_append : (d : ℕ) (xs ys : List ℕ) → IsFree d xs → IsFree d ys → IsFree d (xs ++ ys)
free_append d [] ys h k = k
free_append d (x ∷ xs) ys h k = (h.0, free_append d xs ys h.1 k)

pub apart : (d b : ℕ) → IsForeign d → IsNameByte b → b ≢ d
apart d b out is e = out.name (subst IsNameByte e is)

-- a word of name bytes alone
pub name_bytes_free : (d : ℕ) (word : List ℕ) → IsForeign d → AllByRecursion IsNameByte word → IsFree d word
name_bytes_free d [] out h = tt
name_bytes_free d (b ∷ word) out h = (apart d b out h.0, name_bytes_free d word out h.1)

pub digit_is_name : (b : ℕ) → IsInRange 48 57 b → IsNameByte b
digit_is_name b h = inl (inl (inl h))

pub lower_is_name : (b : ℕ) → IsInRange 97 122 b → IsNameByte b
lower_is_name b h = inl (inr h)

pub path_free : (d : ℕ) (path : List (List ℕ)) → IsForeign d → ArePathNames path → IsFree d (path_text path)
path_free d path out h = path_text_without d out.name out.slash path h

pub name_free_of : (d : ℕ) (name : List ℕ) → IsForeign d → IsName name → IsFree d name
name_free_of d name out h = subst (IsFree d) (append-nil name) (path_free d (name ∷ []) out (h, tt)).1

digits_free : (d : ℕ) (word : List ℕ) → IsForeign d → AllDigits 10 word → IsFree d word
digits_free d [] out h = tt
digits_free d (b ∷ word) out h = (apart d b out (digit_is_name b (digit_from_value b h.0)), digits_free d word out h.1)

pub decimal_free : (d n : ℕ) → IsForeign d → n < 2 ^ 64 → IsFree d (decimal n)
decimal_free d n out lt = digits_free d (decimal n) out (decimal_is_IsNumeral n lt).0.1

-- a lower-case hexadecimal digit is a name byte
pub hex_digit_is_name : (v : ℕ) → v < 16 → IsNameByte (digit_char v)
hex_digit_is_name v lt = elim (cases_lt v 10) [
  | inl low ↦
      let is : digit_char v ≡ 48 + v = cond-true _ _ _ (lt-ltb _ _ low) in
      rw is (digit_is_name (48 + v) (omega arith, omega arith))
  | inr high ↦
      let is : digit_char v ≡ 87 + v = cond-false _ _ _ (le-ltb _ _ high) in
      rw is (lower_is_name (87 + v) (omega arith, omega arith))
]
