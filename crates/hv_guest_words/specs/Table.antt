-- Lines that are read by a table of rows.
use Rattle.std.specs.Prelude.{◌≡◌, ◌⊎◌, ℕ, if◌then◌else◌, List, [], ◌∷◌, map, Option, Some, None, Result, Ok, Err}
use Rattle.std.specs.List.{join_with_byte}
use Rattle.hv_words.specs.declared.refusal.WordsRefusal.{WordsRefusal}
use Rattle.hv_words.specs.declared.refusal.WordsRefusal.TheVariants as refusal
use Rattle.hv_words.specs.Words.{words}
use Rattle.hv_words.specs.Commands.{Row, Argument, FitAll, IsMisfit, IsPrintable}
use Rattle.hv_words.specs.Print.{argument_text}
use Rattle.hv_words.specs.Said.{arguments_in, is_printable}

-- a table has the rows by their names, the row that two words name, the row and the arguments of each command,
-- and the command of a row with arguments
pub record Table (N C : Type 0) : Type 0 where
  pub row_named : N → Row
  pub row_with : List ℕ → List ℕ → Option N
  pub name_of : C → N
  pub arguments_of : C → List Argument
  pub command_with : N → List Argument → Option C

-- a line begins with the two words of a row, and these words follow
pub record BeginsBy {N C : Type 0} (table : Table N C) (line : List ℕ) (name : N) : Type 0 where
  pub rest : List (List ℕ)
  pub words_are : words line ≡ (table.row_named name).family ∷ (table.row_named name).name ∷ rest

-- a line gives a command: it is printable, and its words are those of the command's row and its arguments
pub record GivesBy {N C : Type 0} (table : Table N C) (line : List ℕ) (c : C) : Type 0 where
  pub printable : IsPrintable line
  pub begins : BeginsBy table line (table.name_of c)
  pub fit : FitAll (table.row_named (table.name_of c)).kinds begins.rest (table.arguments_of c)

-- a line is no command where it has a byte that is not printable, or its first two words are no row
abbrev pub IsNoCommandBy : {N C : Type 0} → Table N C → List ℕ → Type 0
IsNoCommandBy {N} table line = (IsPrintable line → ⊥) ⊎ ((name : N) → BeginsBy table line name → ⊥)

-- a line of a row has its first bad word at a number
pub record HasBadWordBy {N C : Type 0} (table : Table N C) (line : List ℕ) (n : ℕ) : Type 0 where
  pub printable : IsPrintable line
  pub name : N
  pub begins : BeginsBy table line name
  pub misfit : IsMisfit (table.row_named name).kinds begins.rest 3 n

-- what a line is read as: its command, or why it gives none
abbrev pub SaysBy : {N C : Type 0} → Table N C → List ℕ → Result C WordsRefusal → Type 0
SaysBy table line (Ok c) = GivesBy table line c
SaysBy table line (Err refusal.NoCommand) = IsNoCommandBy table line
SaysBy table line (Err (refusal.BadWords n)) = HasBadWordBy table line n
SaysBy table line (Err (refusal.Memory e)) = Unit {0}

-- what a line was read as is this, unless memory ran out
abbrev pub IsReadUnlessMemory : {C : Type 0} → Result C WordsRefusal → Result C WordsRefusal → Type 0
IsReadUnlessMemory (Ok c) wanted = Ok c ≡ wanted
IsReadUnlessMemory (Err refusal.NoCommand) wanted = Err refusal.NoCommand ≡ wanted
IsReadUnlessMemory (Err (refusal.BadWords n)) wanted = Err (refusal.BadWords n) ≡ wanted
IsReadUnlessMemory (Err (refusal.Memory e)) wanted = Unit {0}

-- two readings of a line are one, unless memory ran out at either
abbrev pub AreReadAlike : {C : Type 0} → Result C WordsRefusal → Result C WordsRefusal → Type 0
AreReadAlike one (Ok c) = IsReadUnlessMemory one (Ok c)
AreReadAlike one (Err refusal.NoCommand) = IsReadUnlessMemory one (Err refusal.NoCommand)
AreReadAlike one (Err (refusal.BadWords n)) = IsReadUnlessMemory one (Err (refusal.BadWords n))
AreReadAlike one (Err (refusal.Memory e)) = Unit {0}

-- the line of a row with the words of its arguments, one space apart
abbrev pub line_by : {N C : Type 0} → Table N C → N → List (List ℕ) → List ℕ
line_by table name texts = join_with_byte 32 ((table.row_named name).family ∷ (table.row_named name).name ∷ texts)

-- the line that a command is printed as
abbrev pub text_by : {N C : Type 0} → Table N C → C → List ℕ
text_by table c = line_by table (table.name_of c) (map argument_text (table.arguments_of c))

-- a command, or none
abbrev pub or_none : {C : Type 0} → Option C → Result C WordsRefusal
or_none None = Err refusal.NoCommand
or_none (Some c) = Ok c

-- what the arguments of a row are read as
abbrev pub arguments_said_by : {N C : Type 0} → Table N C → N → Result (List Argument) ℕ → Result C WordsRefusal
arguments_said_by table name (Ok given) = or_none (table.command_with name given)
arguments_said_by table name (Err n) = Err (refusal.BadWords n)

-- what the words behind those of a row are read as
abbrev pub row_said_by : {N C : Type 0} → Table N C → Option N → List (List ℕ) → Result C WordsRefusal
row_said_by table None rest = Err refusal.NoCommand
row_said_by table (Some name) rest = arguments_said_by table name (arguments_in (table.row_named name).kinds rest 3)

-- what words are read as
abbrev pub words_said_by : {N C : Type 0} → Table N C → List (List ℕ) → Result C WordsRefusal
words_said_by table [] = Err refusal.NoCommand
words_said_by table (family ∷ []) = Err refusal.NoCommand
words_said_by table (family ∷ name ∷ rest) = row_said_by table (table.row_with family name) rest

-- what a line is read as, told by a function: its command, or why it gives none
abbrev pub said_by : {N C : Type 0} → Table N C → List ℕ → Result C WordsRefusal
said_by table line = if is_printable line then words_said_by table (words line) else Err refusal.NoCommand
