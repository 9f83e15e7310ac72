-- What a front of a text spells.
use Rattle.std.specs.Prelude.{◌≡◌, ℕ, ◌+◌, ◌*◌, ◌<◌, nat_lt, ◌==◌, ◌&&◌, if◌then◌else◌, List, [], ◌∷◌, ◌++◌, Option, Some, None}
use Rattle.std.specs.Char.{digit_value}
use Rattle.hv_words.specs.Text.{Spells}

-- a text begins with two hexadecimal digits of a byte, and the rest follows them
pub record BeginsWithDigitPair (text : List ℕ) (byte : ℕ) (rest : List ℕ) : Type 0 where
  pub high : ℕ
  pub low : ℕ
  pub high_digit : digit_value high < 16
  pub low_digit : digit_value low < 16
  pub text_is : text ≡ high ∷ low ∷ rest
  pub value : byte ≡ digit_value high * 16 + digit_value low

-- a text doesn't begin with two hexadecimal digits
abbrev pub HasNoDigitPair : List ℕ → Type 0
HasNoDigitPair text = (byte : ℕ) (rest : List ℕ) → BeginsWithDigitPair text byte rest → ⊥

-- a text begins with a spelling of a byte, and the rest follows it
pub record BeginsWithByte (text : List ℕ) (byte : ℕ) (rest : List ℕ) : Type 0 where
  pub piece : List ℕ
  pub text_is : text ≡ piece ++ rest
  pub spelled : Spells piece byte

-- a text doesn't begin with a spelling of a byte
abbrev pub HasNoByte : List ℕ → Type 0
HasNoByte text = (byte : ℕ) (rest : List ℕ) → BeginsWithByte text byte rest → ⊥

-- the byte that two hexadecimal digits in front spell, and what follows them
abbrev pub digit_pair : List ℕ → Option (ℕ × List ℕ)
digit_pair [] = None
digit_pair (h ∷ []) = None
digit_pair (h ∷ l ∷ rest) =
    if nat_lt (digit_value h) 16 && nat_lt (digit_value l) 16 then Some (digit_value h * 16 + digit_value l, rest) else None

-- the byte of an escape by its letter, and what follows it
abbrev pub escape_byte : ℕ → List ℕ → Option (ℕ × List ℕ)
escape_byte letter rest =
    if letter == 92 then Some (92, rest) else (
    if letter == 110 then Some (10, rest) else (
    if letter == 115 then Some (32, rest) else (
    if letter == 120 then digit_pair rest else None)))

-- the byte of an escape behind its backslash, and what follows it
abbrev pub escaped : List ℕ → Option (ℕ × List ℕ)
escaped [] = None
escaped (letter ∷ rest) = escape_byte letter rest

-- the byte that a front of a text spells, and what follows it
abbrev pub spelled_front : List ℕ → Option (ℕ × List ℕ)
spelled_front [] = None
spelled_front (b ∷ rest) = if b == 92 then escaped rest else Some (b, rest)
