-- What a text of assembler lines assembles to.
use Rattle.std.specs.Prelude.{◌≡◌, ℕ, ◌+◌, List, [], ◌∷◌, ◌++◌, length, Option, Some, None, Result, Ok, Err, ⊤}
use Rattle.std.specs.List.{flat_map}
use Rattle.byteorder.specs.Endian.{little_bytes}
use Rattle.hv_text.specs.Lines.{script_lines}
use Rattle.hv_asm.specs.declared.refusal.AsmRefusal.{AsmRefusal}
use Rattle.hv_asm.specs.declared.refusal.AsmRefusal.TheVariants.{BadAsm, Memory}
use Rattle.hv_asm.specs.Line.{Gives, IsBadLine}

-- each line gives its answer
abbrev pub AllGive : List (List ℕ) → List (Option ℕ) → Type 0
AllGive [] [] = Unit {0}
AllGive (line ∷ lines) (answer ∷ answers) = Gives line answer × AllGive lines answers
AllGive _ _ = ⊥

-- the bytes of a line: those of its word, the lowest first, or none
abbrev pub answer_bytes : Option ℕ → List ℕ
answer_bytes None = []
answer_bytes (Some word) = little_bytes 4 word

-- each line of a text gives a word or none, and the bytes are those of the words
pub record IsAssembled (text bytes : List ℕ) : Type 0 where
  pub answers : List (Option ℕ)
  pub each : AllGive (script_lines text) answers
  pub bytes_are : bytes ≡ flat_map answer_bytes answers

-- the line of this number, from 1, is the first that is neither blank nor a form
pub record HasBadLine (text : List ℕ) (number : ℕ) : Type 0 where
  pub front : List (List ℕ)
  pub line : List ℕ
  pub behind : List (List ℕ)
  pub lines_are : script_lines text ≡ front ++ line ∷ behind
  pub answers : List (Option ℕ)
  pub good : AllGive front answers
  pub bad : IsBadLine line
  pub number_is : number ≡ length front + 1

-- what a text was found to be: its bytes, or its first bad line, unless memory ran out
abbrev pub Says : List ℕ → Result (List ℕ) AsmRefusal → Type 0
Says text (Ok bytes) = IsAssembled text bytes
Says text (Err (BadAsm number)) = HasBadLine text number
Says text (Err (Memory e)) = ⊤

-- what a text was found to be is this, unless memory ran out
abbrev pub IsUnlessMemory : Result (List ℕ) AsmRefusal → Result (List ℕ) AsmRefusal → Type 0
IsUnlessMemory (Ok bytes) wanted = Ok bytes ≡ wanted
IsUnlessMemory (Err (BadAsm number)) wanted = Err (BadAsm number) ≡ wanted
IsUnlessMemory (Err (Memory e)) wanted = ⊤
