-- What a line is read as, told by a function.
use Rattle.std.specs.Prelude.{ℕ, zero, suc, ◌+◌, nat_lt, nat_le, ◌==◌, ◌&&◌, ◌||◌, not, Bool, if◌then◌else◌, List, [], ◌∷◌, length, codes, Option, Some, None, Result, Ok, Err}
use Rattle.std.specs.Char.{is_ascii_alphanumeric}
use Rattle.std.specs.List.{list_all, slice_split}
use Rattle.std.specs.Option.{option_map}
use Rattle.std.specs.Result.{result_ok}
use Rattle.hv_text.specs.declared.limits.TheConstants.{VCPUS}
use Rattle.hv_text.specs.Number.{number_of}
use Rattle.hv_words.specs.declared.command.Command.{Command}
use Rattle.hv_words.specs.declared.command.Command.TheVariants as command
use Rattle.hv_words.specs.declared.refusal.WordsRefusal.{WordsRefusal}
use Rattle.hv_words.specs.declared.refusal.WordsRefusal.TheVariants as refusal
use Rattle.hv_words.specs.declared.row.RowName.{RowName}
use Rattle.hv_words.specs.declared.row.RowName.TheVariants as row
use Rattle.hv_words.specs.Words.{words}
use Rattle.hv_words.specs.Spelled.{spelled_front}
use Rattle.hv_words.specs.Commands.{Kind, AnyPath, NamedPath, SomeText, RestCount, SomeWord, VcpuNumber, AnyAddress, ByteCount, Argument, PathGiven, TextGiven, NumberGiven, WordGiven}
use Rattle.hv_words.specs.Rows.{row_named, row_with, is_word}

-- a value stands where it passes a test
abbrev pub where_passes : {X : Type 0} → (X → Bool) → Option X → Option X
where_passes test None = None
where_passes test (Some x) = if test x then Some x else None

-- whether a byte is one of names
abbrev pub is_name_byte : ℕ → Bool
is_name_byte b = is_ascii_alphanumeric b || ((b == 46) || ((b == 95) || (b == 45)))

-- whether a text is a name
abbrev pub is_name : List ℕ → Bool
is_name name =
    (nat_lt 0 (length name) && nat_lt (length name) 32)
    && (list_all is_name_byte name && (not (is_word name (codes ".")) && not (is_word name (codes ".."))))

-- the path whose text has these parts before, between and behind its slashes
abbrev pub path_of_parts : List (List ℕ) → Option (List (List ℕ))
path_of_parts [] = None
path_of_parts ((b ∷ bs) ∷ ps) = None
path_of_parts ([] ∷ []) = None
path_of_parts ([] ∷ [] ∷ []) = Some []
path_of_parts ([] ∷ [] ∷ p ∷ ps) = None
path_of_parts ([] ∷ (b ∷ bs) ∷ ps) = if list_all is_name ((b ∷ bs) ∷ ps) then Some ((b ∷ bs) ∷ ps) else None

-- the path of a text
abbrev pub path_of : List ℕ → Option (List (List ℕ))
path_of text = path_of_parts (slice_split (λ b. b == 47) text)

-- the path of a word of a command, which has at most 8 names
abbrev pub command_path : List ℕ → Option (List (List ℕ))
command_path word = where_passes (λ path. nat_le (length path) 8) (path_of word)

-- a byte stands before the bytes that the rest gives
abbrev pub onto_rest : (List ℕ → Option (List ℕ)) → Option (ℕ × List ℕ) → Option (List ℕ)
onto_rest given None = None
onto_rest given (Some front) = option_map (λ bytes. front.0 ∷ bytes) (given front.1)

-- the bytes that a text spells, where they are at most so many
abbrev pub bytes_of : ℕ → List ℕ → Option (List ℕ)
bytes_of zero [] = Some []
bytes_of zero (b ∷ bs) = None
bytes_of (suc most) [] = Some []
bytes_of (suc most) (b ∷ bs) = onto_rest (bytes_of most) (spelled_front (b ∷ bs))

-- the bytes of the text that a word spells, of which there is one at least
abbrev pub text_of : List ℕ → Option (List ℕ)
text_of word = where_passes (λ bytes. nat_lt 0 (length bytes)) (bytes_of (length word) word)

-- the number of a word, where it lies between two
abbrev pub number_between : ℕ → ℕ → List ℕ → Option ℕ
number_between low high word = where_passes (λ n. nat_le low n && nat_le n high) (result_ok (number_of word))

-- what a word gives as an argument of a kind
abbrev pub argument_of : Kind → List ℕ → Option Argument
argument_of AnyPath word = option_map PathGiven (command_path word)
argument_of NamedPath word = option_map PathGiven (where_passes (λ path. nat_lt 0 (length path)) (command_path word))
argument_of SomeText word = option_map TextGiven (text_of word)
argument_of RestCount word = option_map NumberGiven (number_between 1 10000 word)
argument_of SomeWord word = Some (WordGiven word)
argument_of VcpuNumber word = option_map NumberGiven (where_passes (λ n. nat_lt n VCPUS) (result_ok (number_of word)))
argument_of AnyAddress word = option_map NumberGiven (result_ok (number_of word))
argument_of ByteCount word = option_map NumberGiven (number_between 1 256 word)

-- an argument stands before those of the later words, or its word is the misfit
abbrev pub onto_arguments : Option Argument → ℕ → Result (List Argument) ℕ → Result (List Argument) ℕ
onto_arguments None at later = Err at
onto_arguments (Some a) at (Ok given) = Ok (a ∷ given)
onto_arguments (Some a) at (Err n) = Err n

-- what words from a number on give as arguments of these kinds, or the number of the first misfit
abbrev pub arguments_in : List Kind → List (List ℕ) → ℕ → Result (List Argument) ℕ
arguments_in [] [] at = Ok []
arguments_in [] (w ∷ ws) at = Err at
arguments_in (k ∷ ks) [] at = Err at
arguments_in (k ∷ ks) (w ∷ ws) at = onto_arguments (argument_of k w) at (arguments_in ks ws (at + 1))

-- the command of a row with these arguments
abbrev pub command_with : RowName → List Argument → Option Command
command_with row.VfsLs (PathGiven path ∷ []) = Some (command.VfsLs path)
command_with row.VfsCat (PathGiven path ∷ []) = Some (command.VfsCat path)
command_with row.VfsDts (PathGiven path ∷ []) = Some (command.VfsDts path)
command_with row.VfsMkdir (PathGiven path ∷ []) = Some (command.VfsMkdir path)
command_with row.VfsRm (PathGiven path ∷ []) = Some (command.VfsRm path)
command_with row.VfsWrite (PathGiven path ∷ TextGiven text ∷ []) = Some (command.VfsWrite path text)
command_with row.VfsAsm (PathGiven source ∷ PathGiven target ∷ []) = Some (command.VfsAsm source target)
command_with row.VfsRun (PathGiven path ∷ []) = Some (command.VfsRun path)
command_with row.TermRest (NumberGiven count ∷ []) = Some (command.TermRest count)
command_with _ _ = None

-- a command, or none
abbrev pub or_no_command : Option Command → Result Command WordsRefusal
or_no_command None = Err refusal.NoCommand
or_no_command (Some c) = Ok c

-- what the arguments of a row are read as
abbrev pub said_by_arguments : RowName → Result (List Argument) ℕ → Result Command WordsRefusal
said_by_arguments name (Ok given) = or_no_command (command_with name given)
said_by_arguments name (Err n) = Err (refusal.BadWords n)

-- what the words behind those of a row are read as
abbrev pub said_by_row : Option RowName → List (List ℕ) → Result Command WordsRefusal
said_by_row None rest = Err refusal.NoCommand
said_by_row (Some name) rest = said_by_arguments name (arguments_in (row_named name).kinds rest 3)

-- what words are read as
abbrev pub said_by_words : List (List ℕ) → Result Command WordsRefusal
said_by_words [] = Err refusal.NoCommand
said_by_words (family ∷ []) = Err refusal.NoCommand
said_by_words (family ∷ name ∷ rest) = said_by_row (row_with family name) rest

-- whether every byte of a line is a space or a printable character
abbrev pub is_printable : List ℕ → Bool
is_printable line = list_all (λ b. nat_le 32 b && nat_le b 126) line

-- what a line is read as: its command, or why it gives none
abbrev pub said : List ℕ → Result Command WordsRefusal
said line = if is_printable line then said_by_words (words line) else Err refusal.NoCommand
