-- The commands: each is a row of two words and some arguments.
use Rattle.std.specs.Prelude.{◌≡◌, ◌⊎◌, ℕ, ◌+◌, ◌<◌, ◌≤◌, List, [], ◌∷◌, length, codes, Result, Ok, Err, All}
use Rattle.hv_text.specs.declared.limits.TheConstants.{VCPUS}
use Rattle.hv_text.specs.Number.{number_of}
use Rattle.hv_text.specs.Path.{ArePathNames, path_text}
use Rattle.hv_words.specs.declared.command.Command.{Command}
use Rattle.hv_words.specs.declared.command.Command.TheVariants as command
use Rattle.hv_words.specs.declared.refusal.WordsRefusal.{WordsRefusal}
use Rattle.hv_words.specs.declared.refusal.WordsRefusal.TheVariants as refusal
use Rattle.hv_words.specs.Words.{words}
use Rattle.hv_words.specs.Text.{IsText}

-- the kinds of argument: a path, a path of at least one name, a text, how many steps to rest, a word as it stands,
-- the number of a VCPU, an address, and how many bytes to show
pub data Kind : Type 0 where
  AnyPath : Kind
  NamedPath : Kind
  SomeText : Kind
  RestCount : Kind
  SomeWord : Kind
  VcpuNumber : Kind
  AnyAddress : Kind
  ByteCount : Kind

-- what an argument gives
pub data Argument : Type 0 where
  PathGiven : List (List ℕ) → Argument
  TextGiven : List ℕ → Argument
  NumberGiven : ℕ → Argument
  WordGiven : List ℕ → Argument

-- a row has its family, its name, and the kinds of its arguments
pub record Row : Type 0 where
  pub family : List ℕ
  pub name : List ℕ
  pub kinds : List Kind

-- a path in a command has at most 8 names
pub record IsCommandPath (path : List (List ℕ)) : Type 0 where
  pub names : ArePathNames path
  pub short : length path ≤ 8

-- a word is an argument of a kind and gives this
abbrev pub Fits : Kind → List ℕ → Argument → Type 0
Fits AnyPath word (PathGiven path) = IsCommandPath path × (word ≡ path_text path)
Fits NamedPath word (PathGiven path) = IsCommandPath path × (0 < length path) × (word ≡ path_text path)
Fits SomeText word (TextGiven bytes) = IsText word bytes
Fits RestCount word (NumberGiven n) = (number_of word ≡ Ok n) × (1 ≤ n) × (n ≤ 10000)
Fits SomeWord word (WordGiven given) = given ≡ word
Fits VcpuNumber word (NumberGiven n) = (number_of word ≡ Ok n) × (n < VCPUS)
Fits AnyAddress word (NumberGiven n) = number_of word ≡ Ok n
Fits ByteCount word (NumberGiven n) = (number_of word ≡ Ok n) × (1 ≤ n) × (n ≤ 256)
Fits _ word _ = ⊥

-- words are arguments of these kinds, one for each, and give these
abbrev pub FitAll : List Kind → List (List ℕ) → List Argument → Type 0
FitAll [] [] [] = Unit {0}
FitAll (k ∷ ks) (w ∷ ws) (a ∷ as') = Fits k w a × FitAll ks ws as'
FitAll _ _ _ = ⊥

-- n is the number of the first word that doesn't fit, is missing or is too much; the first of these words has the number `at`
abbrev pub IsMisfit : List Kind → List (List ℕ) → ℕ → ℕ → Type 0
IsMisfit [] [] at n = ⊥
IsMisfit [] (w ∷ ws) at n = n ≡ at
IsMisfit (k ∷ ks) [] at n = n ≡ at
IsMisfit (k ∷ ks) (w ∷ ws) at n =
    (((a : Argument) → Fits k w a → ⊥) × (n ≡ at)) ⊎ ((a : Argument) × Fits k w a × IsMisfit ks ws (at + 1) n)

-- the row of a command
abbrev pub row_of : Command → Row
row_of (command.VfsLs _) = record { family = codes "vfs"; name = codes "ls"; kinds = AnyPath ∷ [] }
row_of (command.VfsCat _) = record { family = codes "vfs"; name = codes "cat"; kinds = AnyPath ∷ [] }
row_of (command.VfsDts _) = record { family = codes "vfs"; name = codes "dts"; kinds = AnyPath ∷ [] }
row_of (command.VfsMkdir _) = record { family = codes "vfs"; name = codes "mkdir"; kinds = NamedPath ∷ [] }
row_of (command.VfsRm _) = record { family = codes "vfs"; name = codes "rm"; kinds = NamedPath ∷ [] }
row_of (command.VfsWrite _ _) = record { family = codes "vfs"; name = codes "write"; kinds = NamedPath ∷ SomeText ∷ [] }
row_of (command.VfsAsm _ _) = record { family = codes "vfs"; name = codes "asm"; kinds = AnyPath ∷ NamedPath ∷ [] }
row_of (command.VfsRun _) = record { family = codes "vfs"; name = codes "run"; kinds = AnyPath ∷ [] }
row_of (command.TermRest _) = record { family = codes "term"; name = codes "rest"; kinds = RestCount ∷ [] }

-- what the arguments of a command give
abbrev pub arguments_of : Command → List Argument
arguments_of (command.VfsLs path) = PathGiven path ∷ []
arguments_of (command.VfsCat path) = PathGiven path ∷ []
arguments_of (command.VfsDts path) = PathGiven path ∷ []
arguments_of (command.VfsMkdir path) = PathGiven path ∷ []
arguments_of (command.VfsRm path) = PathGiven path ∷ []
arguments_of (command.VfsWrite path text) = PathGiven path ∷ TextGiven text ∷ []
arguments_of (command.VfsAsm source target) = PathGiven source ∷ PathGiven target ∷ []
arguments_of (command.VfsRun path) = PathGiven path ∷ []
arguments_of (command.TermRest count) = NumberGiven count ∷ []

-- every byte of a command line is a space or a printable character
abbrev pub IsPrintable : List ℕ → Type 0
IsPrintable line = All (λ b. (32 ≤ b) × (b ≤ 126)) line

-- a line gives a command: it is printable, and its words are the command's row and arguments
pub record Gives (line : List ℕ) (c : Command) : Type 0 where
  pub printable : IsPrintable line
  pub arguments : List (List ℕ)
  pub words_are : words line ≡ (row_of c).family ∷ (row_of c).name ∷ arguments
  pub fit : FitAll (row_of c).kinds arguments (arguments_of c)

-- a line begins with the two words of a row
pub record BeginsRow (line : List ℕ) (row : Row) : Type 0 where
  pub row_is : (c : Command) × (row_of c ≡ row)
  pub rest : List (List ℕ)
  pub words_are : words line ≡ row.family ∷ row.name ∷ rest

-- a line is no command where it has a byte that is not printable, or its first two words are no row
abbrev pub IsNoCommand : List ℕ → Type 0
IsNoCommand line = (IsPrintable line → ⊥) ⊎ ((row : Row) → BeginsRow line row → ⊥)

-- a line of a row has its first bad word at a number
pub record HasBadWord (line : List ℕ) (n : ℕ) : Type 0 where
  pub printable : IsPrintable line
  pub row : Row
  pub begins : BeginsRow line row
  pub misfit : IsMisfit row.kinds begins.rest 3 n

-- what a line is read as: its command, or why it gives none
abbrev pub Says : List ℕ → Result Command WordsRefusal → Type 0
Says line (Ok c) = Gives line c
Says line (Err refusal.NoCommand) = IsNoCommand line
Says line (Err (refusal.BadWords n)) = HasBadWord line n
Says line (Err (refusal.Memory e)) = Unit {0}
