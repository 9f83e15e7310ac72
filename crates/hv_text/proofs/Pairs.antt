-- Bytes as pairs of hexadecimal digits.
use Rattle.std.proofs.Common.{◌≡◌, ℕ, ◌/◌, ◌%◌, ◌^◌, ◌<◌, false, List, [], ◌∷◌, inl, inr, refl, arith}
use Rattle.std.specs.Char.{digit_char}
use Rattle.std.specs.Fmt.{digits}
use Rattle.std.proofs.lemmas.Bool.{cases_lt}
use Rattle.std.proofs.lemmas.Fmt.{hex_one_digit, hex_two_digits}
use Rattle.hv_text.specs.Number.{padded_hex}

-- a byte is written as the digits of its high and its low half
pub pair_is : (b : ℕ) → b < 2 ^ 8 → padded_hex b 2 ≡ digit_char (b / 16) ∷ digit_char (b % 16) ∷ []
pair_is b lt = elim (cases_lt b 16) [
  | inl low ↦
      let high : b / 16 ≡ 0 = omega arith in
      let rest : b % 16 ≡ b = omega arith in
      let one : digits 16 false b ≡ digit_char b ∷ [] = hex_one_digit false b low in
      rw (one, high, rest) refl
  | inr high ↦
      let two : digits 16 false b ≡ digit_char (b / 16) ∷ digit_char (b % 16) ∷ [] = hex_two_digits false b high lt in
      rw two refl
]
