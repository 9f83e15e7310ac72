-- The lines of commands.
use Rattle.std.specs.Prelude.{ℕ, ◌/◌, ◌%◌, ◌==◌, if◌then◌else◌, List, [], ◌∷◌, map}
use Rattle.std.specs.Char.{is_ascii_graphic, digit_char}
use Rattle.std.specs.Fmt.{decimal}
use Rattle.std.specs.List.{flat_map, join_with_byte}
use Rattle.hv_text.specs.Path.{path_text}
use Rattle.hv_words.specs.declared.command.Command.{Command}
use Rattle.hv_words.specs.Commands.{Argument, PathGiven, TextGiven, NumberGiven, WordGiven, row_of, arguments_of}

-- a byte is printed as `\\`, as `\n`, as `\s` for a space, as itself where it is graphic, and else as `\x` and two lower-case digits
abbrev pub byte_text : ℕ → List ℕ
byte_text b =
    if b == 92 then 92 ∷ 92 ∷ [] else (
    if b == 10 then 92 ∷ 110 ∷ [] else (
    if b == 32 then 92 ∷ 115 ∷ [] else (
    if is_ascii_graphic b then b ∷ []
    else 92 ∷ 120 ∷ digit_char (b / 16) ∷ digit_char (b % 16) ∷ [])))

-- the word of an argument
abbrev pub argument_text : Argument → List ℕ
argument_text (PathGiven path) = path_text path
argument_text (TextGiven bytes) = flat_map byte_text bytes
argument_text (NumberGiven n) = decimal n
argument_text (WordGiven word) = word

-- the line of a command has its family, its name and its arguments one space apart
abbrev pub command_text : Command → List ℕ
command_text c = join_with_byte 32 ((row_of c).family ∷ (row_of c).name ∷ map argument_text (arguments_of c))
