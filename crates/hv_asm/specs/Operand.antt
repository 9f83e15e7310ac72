-- The operands of an assembler line, as they are read and as they are printed.
use Rattle.std.specs.Prelude.{◌≡◌, ℕ, ◌^◌, ℤ, pos, neg_ℤ, nat_eq, nat_lt, if◌then◌else◌, false, List, [], ◌∷◌, ◌++◌, codes, drop, Option, Some, None, Result, Ok, Err}
use Rattle.std.specs.Fmt.{decimal, signed_decimal, digits}
use Rattle.std.specs.List.{starts_with}
use Rattle.std.specs.Option.{option_map}
use Rattle.hv_text.specs.Number.{number_of}
use Rattle.hv_text.specs.declared.number.NumberRefusal.{NumberRefusal}
use Rattle.hv_asm.specs.declared.operand.Operand.{Operand}
use Rattle.hv_asm.specs.declared.operand.Operand.TheVariants.{Register, Decimal, Hexadecimal, Based}
use Rattle.hv_asm.specs.declared.operand.Operands.{Operands}
use Rattle.hv_asm.specs.declared.operand.Operands.TheVariants.{Nothing, One, Two, Three}

-- a number that was read, where a word can hold it
abbrev pub within_word : Result ℕ NumberRefusal → Option ℕ
within_word (Ok n) = if nat_lt n (2 ^ 32) then Some n else None
within_word (Err e) = None

-- the value of a number: decimal digits, perhaps behind a `-`, or `0x` and hexadecimal digits of either case;
-- `-0` is 0, also where an operand holds no negative number
abbrev pub number_value : List ℕ → Option ℤ
number_value text =
    if starts_with nat_eq text (codes "-0x") then None else (
    if starts_with nat_eq text (codes "-") then option_map (λ n. neg_ℤ (pos n)) (within_word (number_of (drop 1 text)))
    else option_map (λ n. pos n) (within_word (number_of text)))

-- the name of a register
abbrev pub register_text : ℕ → List ℕ
register_text number = codes "x" ++ decimal number

-- an offset, and a register in parentheses
abbrev pub based_text : List ℕ → ℕ → List ℕ
based_text offset base = offset ++ (codes "(" ++ register_text base ++ codes ")")

-- an operand is printed as the name of its register, in decimal, in hexadecimal behind `0x`, or as an offset from a register
abbrev pub operand_text : Operand → List ℕ
operand_text (Register number) = register_text number
operand_text (Decimal value) = signed_decimal value
operand_text (Hexadecimal value) = codes "0x" ++ digits 16 false value
operand_text (Based offset base) = based_text (signed_decimal offset) base

-- a text spells an operand: registers by their names alone, numbers in each way that gives their value
abbrev pub Spells : Operand → List ℕ → Type 0
Spells (Register number) text = text ≡ register_text number
Spells (Decimal value) text = number_value text ≡ Some value
Spells (Hexadecimal value) text = number_value text ≡ Some (pos value)
Spells (Based offset base) text =
    (front : List ℕ) × (text ≡ based_text front base) × (number_value front ≡ Some offset)

-- words spell operands: a comma stands at once behind each but the last
abbrev pub AreSpelled : Operands → List (List ℕ) → Type 0
AreSpelled Nothing words = words ≡ []
AreSpelled (One a) words = (s : List ℕ) × (words ≡ s ∷ []) × Spells a s
AreSpelled (Two a b) words =
    (s t : List ℕ) × (words ≡ (s ++ codes ",") ∷ t ∷ []) × Spells a s × Spells b t
AreSpelled (Three a b c) words =
    (s t u : List ℕ) × (words ≡ (s ++ codes ",") ∷ (t ++ codes ",") ∷ u ∷ []) × Spells a s × Spells b t × Spells c u

-- the words of operands as they are printed
abbrev pub operand_words : Operands → List (List ℕ)
operand_words Nothing = []
operand_words (One a) = operand_text a ∷ []
operand_words (Two a b) = (operand_text a ++ codes ",") ∷ operand_text b ∷ []
operand_words (Three a b c) = (operand_text a ++ codes ",") ∷ (operand_text b ++ codes ",") ∷ operand_text c ∷ []
