-- Used by proofs and private functions alone.
-- How a line is taken apart: its words, and its operands as they are read.
use Rattle.std.specs.Prelude.{◌≡◌, ◌⊎◌, ⊤, ℕ, ◌<◌, ◌^◌, pos, false, true, List, [], ◌∷◌, ◌++◌, codes, Some}
use Rattle.std.specs.List.{AllByRecursion}
use Rattle.hv_exec.specs.Fields.{IsWellFormed}
use Rattle.hv_exec.specs.declared.inst.Inst.{Inst}
use Rattle.hv_isa.specs.Table.{decoded}
use Rattle.hv_asm.specs.declared.operand.Operand.{Operand}
use Rattle.hv_asm.specs.declared.operand.Operand.TheVariants.{Register, Decimal, Hexadecimal, Based}
use Rattle.hv_asm.specs.declared.operand.Operands.{Operands}
use Rattle.hv_asm.specs.declared.operand.Operands.TheVariants.{Nothing, One, Two, Three}
use Rattle.hv_asm.specs.Line.{is_blank}
use Rattle.hv_asm.specs.Operand.{Spells}
use Rattle.hv_asm.specs.Syntax.{syntax_of, literal}

-- a text is empty or begins with a byte of a word
abbrev pub StartsWord : List ℕ → Type 0
StartsWord [] = ⊤
StartsWord (b ∷ bs) = is_blank b ≡ false

-- a text has no blanks
abbrev pub HasNoBlanks : List ℕ → Type 0
HasNoBlanks text = AllByRecursion (λ b. is_blank b ≡ false) text

-- a text is empty or begins with a blank
abbrev pub StopsWord : List ℕ → Type 0
StopsWord [] = ⊤
StopsWord (b ∷ bs) = is_blank b ≡ true

-- the registers of an operand exist
abbrev pub HasRegisters : Operand → Type 0
HasRegisters (Register number) = number < 32
HasRegisters (Decimal value) = ⊤
HasRegisters (Hexadecimal value) = ⊤
HasRegisters (Based offset base) = base < 32

-- the same of each operand
abbrev pub HaveRegisters : Operands → Type 0
HaveRegisters Nothing = ⊤
HaveRegisters (One a) = HasRegisters a
HaveRegisters (Two a b) = HasRegisters a × HasRegisters b
HaveRegisters (Three a b c) = HasRegisters a × HasRegisters b × HasRegisters c

-- a word is a spelled operand and a comma
abbrev pub IsBeforeComma : Operand → List ℕ → Type 0
IsBeforeComma o word = (text : List ℕ) × (word ≡ text ++ codes ",") × Spells o text

-- the operand as which a spelled one is read: a number is a number, however it is printed
abbrev pub as_read : Operand → Operand
as_read (Register number) = Register number
as_read (Decimal value) = Decimal value
as_read (Hexadecimal value) = Decimal (pos value)
as_read (Based offset base) = Based offset base

-- the same of each operand
abbrev pub all_as_read : Operands → Operands
all_as_read Nothing = Nothing
all_as_read (One a) = One (as_read a)
all_as_read (Two a b) = Two (as_read a) (as_read b)
all_as_read (Three a b c) = Three (as_read a) (as_read b) (as_read c)

-- an instruction has a name and operands, and each operand fits its field
pub record HasSyntax (inst : Inst) (name : List ℕ) (operands : Operands) : Type 0 where
  pub well_formed : IsWellFormed inst
  pub name_is : (syntax_of inst).name ≡ name
  pub operands_are : all_as_read (syntax_of inst).operands ≡ operands

-- a name and operands, as they are read, are those of a word's instruction
pub record IsInstructionWord (name : List ℕ) (operands : Operands) (word : ℕ) : Type 0 where
  pub inst : Inst
  pub decodes : decoded word ≡ Some inst
  pub syntax : HasSyntax inst name operands

-- a name and operands, as they are read, are those of a word by its number
pub record IsLiteral (name : List ℕ) (operands : Operands) (word : ℕ) : Type 0 where
  pub name_is : (literal word).name ≡ name
  pub operands_are : all_as_read (literal word).operands ≡ operands

-- a name and operands, as they are read, are those of a word
pub record IsWordOf (name : List ℕ) (operands : Operands) (word : ℕ) : Type 0 where
  pub fits : word < 2 ^ 32
  pub spelled : IsInstructionWord name operands word ⊎ IsLiteral name operands word
