-- The lines of assembler text, and the line that is printed for a word.
use Rattle.std.specs.Prelude.{◌≡◌, ◌⊎◌, ℕ, ◌<◌, ◌^◌, ◌==◌, Bool, true, false, not, ◌||◌, List, [], ◌∷◌, ◌++◌, codes, filter, Option, Some, None}
use Rattle.std.specs.List.{slice_split, take_while}
use Rattle.hv_exec.specs.declared.inst.Inst.{Inst}
use Rattle.hv_exec.specs.Fields.{IsWellFormed}
use Rattle.hv_isa.specs.Table.{decoded}
use Rattle.hv_text.specs.Number.{padded_hex}
use Rattle.hv_asm.specs.Operand.{AreSpelled}
use Rattle.hv_asm.specs.Syntax.{Syntax, syntax_of, literal, syntax_text}

-- a space or a tab
abbrev pub is_blank : ℕ → Bool
is_blank b = (b == 32) || (b == 9)

-- whether there are no bytes
abbrev pub is_empty : List ℕ → Bool
is_empty [] = true
is_empty (b ∷ bs) = false

-- the words of a text stand between its blanks
abbrev pub words : List ℕ → List (List ℕ)
words text = filter (λ w. not (is_empty w)) (slice_split is_blank text)

-- what precedes the first `#` of a line
abbrev pub without_comment : List ℕ → List ℕ
without_comment line = take_while (λ b. not (b == 35)) line

-- words are a name and spelled operands
pub record IsSpelled (s : Syntax) (ws : List (List ℕ)) : Type 0 where
  pub behind : List (List ℕ)
  pub words_are : ws ≡ s.name ∷ behind
  pub spelled : AreSpelled s.operands behind

-- words spell the instruction that a word is, each of whose operands fits its field
pub record SpellsInstruction (ws : List (List ℕ)) (word : ℕ) : Type 0 where
  pub inst : Inst
  pub well_formed : IsWellFormed inst
  pub decodes : decoded word ≡ Some inst
  pub spelled : IsSpelled (syntax_of inst) ws

-- words spell a word: as an instruction, or by its number
pub record SpellWord (ws : List (List ℕ)) (word : ℕ) : Type 0 where
  pub fits : word < 2 ^ 32
  pub spelled : SpellsInstruction ws word ⊎ IsSpelled (literal word) ws

-- a line stands for the word that it spells without its comment
abbrev pub StandsFor : List ℕ → ℕ → Type 0
StandsFor line word = SpellWord (words (without_comment line)) word

-- words give the word that they spell, and none where there are none
abbrev pub Give : List (List ℕ) → Option ℕ → Type 0
Give ws None = ws ≡ []
Give ws (Some word) = SpellWord ws word

-- a line gives a word that it stands for, and none where it is blank without its comment
abbrev pub Gives : List ℕ → Option ℕ → Type 0
Gives line answer = Give (words (without_comment line)) answer

-- a line is neither blank nor one of the forms
abbrev pub IsBadLine : List ℕ → Type 0
IsBadLine line = (answer : Option ℕ) → Gives line answer → ⊥

-- the printed line of a word that is an instruction, and of one that is none
abbrev pub text_of : ℕ → Option Inst → List ℕ
text_of word (Some inst) = syntax_text (syntax_of inst)
text_of word None = codes ".word 0x" ++ padded_hex word 8

-- the line that is printed for a word
abbrev pub assembler_text : ℕ → List ℕ
assembler_text word = text_of word (decoded word)
