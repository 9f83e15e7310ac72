-- The texts of a command: bytes spelled by themselves or by escapes.
use Rattle.std.specs.Prelude.{◌≡◌, ◌≢◌, ◌⊎◌, ℕ, ◌+◌, ◌*◌, ◌<◌, List, [], ◌∷◌, ◌++◌, length}
use Rattle.std.specs.Char.{digit_value}

-- two hexadecimal digits of either case spell a byte by its value
pub record SpellsByDigits (piece : List ℕ) (byte : ℕ) : Type 0 where
  pub high : ℕ
  pub low : ℕ
  pub high_digit : digit_value high < 16
  pub low_digit : digit_value low < 16
  pub piece_is : piece ≡ 92 ∷ 120 ∷ high ∷ low ∷ []
  pub value : byte ≡ digit_value high * 16 + digit_value low

-- a byte is spelled by itself unless it is a backslash, or by `\\`, `\n`, `\s` (a space) or `\x` and two digits
abbrev pub Spells : List ℕ → ℕ → Type 0
Spells piece byte =
    ((byte ≢ 92) × (piece ≡ byte ∷ []))
    ⊎ (((byte ≡ 92) × (piece ≡ 92 ∷ 92 ∷ []))
    ⊎ (((byte ≡ 10) × (piece ≡ 92 ∷ 110 ∷ []))
    ⊎ (((byte ≡ 32) × (piece ≡ 92 ∷ 115 ∷ []))
    ⊎ SpellsByDigits piece byte)))

-- a word spells bytes one after the other
abbrev pub SpellsAll : List ℕ → List ℕ → Type 0
SpellsAll word [] = word ≡ []
SpellsAll word (byte ∷ bytes) =
    (piece rest : List ℕ) × (word ≡ piece ++ rest) × Spells piece byte × SpellsAll rest bytes

-- a word is the text of one or more bytes that it spells
pub record IsText (word bytes : List ℕ) : Type 0 where
  pub some : 0 < length bytes
  pub spelled : SpellsAll word bytes
