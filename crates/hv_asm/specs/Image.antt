-- The image that a text assembles to, as a function of the text: `IsAssembled` says what an image is, and a law that
-- this function gives it wherever there is one.
use Rattle.std.specs.Prelude.{ℕ, zero, suc, ◌-◌, ◌==◌, ℤ, unsigned_abs, nat_eq, not, if◌then◌else◌, List, [], ◌∷◌, codes, take, length, Option, Some, None}
use Rattle.std.specs.Cmp.Lexicographic.{pointwise}
use Rattle.std.specs.List.{flat_map, take_while}
use Rattle.std.specs.Option.{option_or, option_map, option_and_then}
use Rattle.hv_isa.specs.Encoding.{encoded}
use Rattle.hv_text.specs.Lines.{script_lines}
use Rattle.hv_asm.specs.declared.operand.Operand.{Operand}
use Rattle.hv_asm.specs.declared.operand.Operand.TheVariants.{Register, Decimal, Based}
use Rattle.hv_asm.specs.declared.operand.Operands.{Operands}
use Rattle.hv_asm.specs.declared.operand.Operands.TheVariants.{Nothing, One, Two, Three}
use Rattle.hv_asm.specs.Assembly.{answer_bytes}
use Rattle.hv_asm.specs.Line.{words, without_comment}
use Rattle.hv_asm.specs.Operand.{number_value, register_text, based_text}
use Rattle.hv_asm.specs.Forms.{instruction_of}

-- the register below a bound whose form is this text
unfoldable pub register_below : ℕ → (ℕ → List ℕ) → List ℕ → Option ℕ
register_below zero form text = None
register_below (suc n) form text = if pointwise nat_eq text (form n) then Some n else register_below n form text

-- what precedes the parenthesis of an offset
abbrev pub before_base : List ℕ → List ℕ
before_base text = take_while (λ b. not (b == 40)) text

-- the offset from a register that a text is
abbrev pub based_operand : List ℕ → List ℕ → Option Operand
based_operand front text =
    option_and_then (λ (offset : ℤ). option_map (λ base. Based offset base) (register_below 32 (based_text front) text)) (number_value front)

-- the operand that a text is: a number, an offset from a register, or a register
unfoldable pub operand_read : List ℕ → Option Operand
operand_read text =
    option_or (option_map (λ z. Decimal z) (number_value text))
    (option_or (based_operand (before_base text) text) (option_map (λ n. Register n) (register_below 32 register_text text)))

-- the operand that stands before a comma
abbrev pub before_comma : List ℕ → Option Operand
before_comma word = operand_read (take (length word - 1) word)

-- two operands, where both are there
abbrev pub two_operands : Option Operand → Option Operand → Option Operands
two_operands (Some a) (Some b) = Some (Two a b)
two_operands _ _ = None

-- three operands, where all are there
abbrev pub three_operands : Option Operand → Option Operand → Option Operand → Option Operands
three_operands (Some a) (Some b) (Some c) = Some (Three a b c)
three_operands _ _ _ = None

-- the operands that words are
abbrev pub operands_read : List (List ℕ) → Option Operands
operands_read [] = Some Nothing
operands_read (a ∷ []) = option_map (λ o. One o) (operand_read a)
operands_read (a ∷ b ∷ []) = two_operands (before_comma a) (operand_read b)
operands_read (a ∷ b ∷ c ∷ []) = three_operands (before_comma a) (before_comma b) (operand_read c)
operands_read (a ∷ b ∷ c ∷ d ∷ more) = None

-- the word that is written by its number
abbrev pub numbered_word : Operands → Option ℕ
numbered_word (One (Decimal value)) = Some (unsigned_abs value)
numbered_word _ = None

-- the word of a name and operands
unfoldable pub word_named : List ℕ → Operands → Option ℕ
word_named name operands =
    if pointwise nat_eq name (codes ".word") then numbered_word operands
    else option_map (λ inst. encoded inst) (instruction_of name operands)

-- the word of a line's words, and none where there are none
abbrev pub word_given : List (List ℕ) → Option ℕ
word_given [] = None
word_given (name ∷ behind) = option_and_then (word_named name) (operands_read behind)

-- the bytes of a line
abbrev pub line_bytes : List ℕ → List ℕ
line_bytes line = answer_bytes (word_given (words (without_comment line)))

-- the bytes of the lines of a text
abbrev pub image_of : List ℕ → List ℕ
image_of text = flat_map line_bytes (script_lines text)
