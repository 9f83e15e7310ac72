-- How the words behind the first two are read as arguments.
use Rattle.std.specs.Prelude.{◌≡◌, ℕ, List, Result, Ok, Err}
use Rattle.hv_words.specs.declared.command.Command.{Command}
use Rattle.hv_words.specs.declared.refusal.WordsRefusal.{WordsRefusal}
use Rattle.hv_words.specs.declared.refusal.WordsRefusal.TheVariants as refusal
use Rattle.hv_words.specs.Commands.{Row, Kind, Argument, Fits, FitAll, IsMisfit, row_of, arguments_of}

-- a word is no argument of a kind
abbrev pub IsUnfit : Kind → List ℕ → Type 0
IsUnfit kind word = (a : Argument) → Fits kind word a → ⊥

-- a word of a number was refused: it doesn't fit, or memory ran out
abbrev pub IsRefusedAt : Kind → List ℕ → ℕ → WordsRefusal → Type 0
IsRefusedAt kind word at refusal.NoCommand = ⊥
IsRefusedAt kind word at (refusal.BadWords n) = (n ≡ at) × IsUnfit kind word
IsRefusedAt kind word at (refusal.Memory e) = Unit {0}

-- words from a number on were refused: one of them is the first misfit, or memory ran out
abbrev pub AreRefusedFrom : List Kind → List (List ℕ) → ℕ → WordsRefusal → Type 0
AreRefusedFrom kinds ws at refusal.NoCommand = ⊥
AreRefusedFrom kinds ws at (refusal.BadWords n) = IsMisfit kinds ws at n
AreRefusedFrom kinds ws at (refusal.Memory e) = Unit {0}

-- a command of a row with these words as its arguments
pub record HasArguments (row : Row) (ws : List (List ℕ)) (c : Command) : Type 0 where
  pub row_is : row_of c ≡ row
  pub fit : FitAll row.kinds ws (arguments_of c)

-- what a line was read as is this, unless memory ran out
abbrev pub IsUnlessMemory : Result Command WordsRefusal → Result Command WordsRefusal → Type 0
IsUnlessMemory (Ok c) wanted = Ok c ≡ wanted
IsUnlessMemory (Err refusal.NoCommand) wanted = Err refusal.NoCommand ≡ wanted
IsUnlessMemory (Err (refusal.BadWords n)) wanted = Err (refusal.BadWords n) ≡ wanted
IsUnlessMemory (Err (refusal.Memory e)) wanted = Unit {0}

-- two readings of a line are one, unless memory ran out at either
abbrev pub Agree : Result Command WordsRefusal → Result Command WordsRefusal → Type 0
Agree one (Ok c) = IsUnlessMemory one (Ok c)
Agree one (Err refusal.NoCommand) = IsUnlessMemory one (Err refusal.NoCommand)
Agree one (Err (refusal.BadWords n)) = IsUnlessMemory one (Err (refusal.BadWords n))
Agree one (Err (refusal.Memory e)) = Unit {0}
