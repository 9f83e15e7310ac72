-- Tokens of device tree source: what may stand in front of a text, and the token at an offset.
use Rattle.std.specs.Prelude.{ℕ, ◌+◌, ◌-◌, List, [], ◌∷◌, length, drop, take, ◌&&◌, ◌==◌, not, nat_eq, nat_lt, if◌then◌else◌, Option, Some, None, Result, Ok, Err, codes, is_some, IfSome, ◌<◌, ◌≤◌}
use Rattle.std.specs.Option.{option_map, option_and_then, option_or}
use Rattle.std.specs.Char.{is_ascii_alphanumeric, is_ascii_digit, is_ascii_hexdigit}
use Rattle.std.specs.List.{prefix_len, starts_with, list_any}
use Rattle.hv_dtlex.specs.Class.{is_name_byte, is_word_byte}
use Rattle.hv_dtlex.specs.Blank.{behind_blanks}
use Rattle.hv_dtlex.specs.Values.{value_of_number, string_len}
use Rattle.hv_dtlex.specs.declared.token.TokenKind.{TokenKind}
use Rattle.hv_dtlex.specs.declared.token.TokenKind.TheVariants.{Version, Root, NodeOpen, NodeClose, Semicolon, Equals, Label, Word, CellsOpen, CellsClose, BytesOpen, BytesClose, Comma, Text, Number, Reference, Pair}
use Rattle.hv_dtlex.specs.declared.token.Mode.{Mode}
use Rattle.hv_dtlex.specs.declared.token.Mode.TheVariants.{Name, Value, Hex}
use Rattle.hv_dtlex.specs.declared.token.Token.{Token}
use Rattle.hv_dtlex.specs.declared.token.BadToken.{BadToken}

-- a token's form and how many bytes it has
abbrev pub Form : Type 0
Form = TokenKind × ℕ

-- a form that stands in a text has at least one byte, and no more than the text
abbrev pub IsWithin : List ℕ → Option Form → Type 0
IsWithin text found = IfSome found (λ form. (0 < form.1) × (form.1 ≤ length text))

-- the text begins with these bytes
abbrev pub fixed_form : List ℕ → TokenKind → List ℕ → Option Form
fixed_form bytes kind text = if starts_with nat_eq text bytes then Some (kind, length bytes) else None

-- one or more bytes of a run
abbrev pub run_form : TokenKind → ℕ → Option Form
run_form kind len = if nat_lt 0 len then Some (kind, len) else None

-- how long the name of a label in front is: 1 to 31 bytes, no digit first, and no such byte behind them
abbrev pub name_len : List ℕ → Option ℕ
name_len text =
    let len = prefix_len is_name_byte text in
    if nat_lt 0 len && (nat_lt len 32 && not (list_any is_ascii_digit (take 1 text))) then Some len else None

-- a name and a colon at once
unfoldable pub label_form : List ℕ → Option Form
label_form text =
    option_and_then (λ len. if starts_with nat_eq (drop len text) (codes ":") then Some (Label, len + 1) else None) (name_len text)

-- an ampersand and a name
unfoldable pub reference_form : List ℕ → Option Form
reference_form text =
    if starts_with nat_eq text (codes "&") then option_map (λ len. (Reference, len + 1)) (name_len (drop 1 text)) else None

-- the longest run of letters and digits, where it is a number
unfoldable pub number_form : List ℕ → Option Form
number_form text =
    let len = prefix_len is_ascii_alphanumeric text in
    if is_some (value_of_number (take len text)) then Some (Number, len) else None

-- a quote, pieces and a quote
unfoldable pub string_form : List ℕ → Option Form
string_form text =
    if starts_with nat_eq text (codes "\"") then option_map (λ len. (Text, len + 1)) (string_len (drop 1 text)) else None

-- two hexadecimal digits
unfoldable pub pair_form : List ℕ → Option Form
pair_form text = if prefix_len is_ascii_hexdigit (take 2 text) == 2 then Some (Pair, 2) else None

-- a slash that begins no comment
unfoldable pub root_form : List ℕ → Option Form
root_form text = if starts_with nat_eq text (codes "/*") then None else fixed_form (codes "/") Root text

-- the marks among names
unfoldable pub name_mark : List ℕ → Option Form
name_mark text =
    option_or (fixed_form (codes "{") NodeOpen text) (option_or (fixed_form (codes "}") NodeClose text)
    (option_or (fixed_form (codes ";") Semicolon text) (fixed_form (codes "=") Equals text)))

-- the marks of lists in values
unfoldable pub list_mark : List ℕ → Option Form
list_mark text =
    option_or (fixed_form (codes "<") CellsOpen text) (option_or (fixed_form (codes ">") CellsClose text) (fixed_form (codes "[") BytesOpen text))

-- the marks in values
unfoldable pub value_mark : List ℕ → Option Form
value_mark text =
    option_or (list_mark text) (option_or (fixed_form (codes ",") Comma text) (fixed_form (codes ";") Semicolon text))

-- what may stand among names: of two forms the longer one
unfoldable pub name_form : List ℕ → Option Form
name_form text =
    option_or (fixed_form (codes "/dts-v1/") Version text) (option_or (root_form text) (option_or (name_mark text)
    (option_or (label_form text) (run_form Word (prefix_len is_word_byte text)))))

-- what may stand in a value
unfoldable pub value_form : List ℕ → Option Form
value_form text =
    option_or (value_mark text) (option_or (string_form text) (option_or (reference_form text) (number_form text)))

-- what may stand between brackets
unfoldable pub hex_form : List ℕ → Option Form
hex_form text = option_or (fixed_form (codes "]") BytesClose text) (pair_form text)

-- what stands in front of a text
unfoldable pub form_in : Mode → List ℕ → Option Form
form_in Name text = name_form text
form_in Value text = value_form text
form_in Hex text = hex_form text

-- the token that begins at an offset with a form, or none
abbrev pub token_from : ℕ → Option Form → Result (Option Token) BadToken
token_from start None = Err (record { 0 = start })
token_from start (Some form) = Ok (Some (record { kind = form.0; start = start; end = start + form.1 }))

-- the token in front of what is left of a text with so many bytes, where something is left
abbrev pub token_in : Mode → ℕ → List ℕ → Result (Option Token) BadToken
token_in mode size [] = Ok None
token_in mode size (b ∷ rest) = token_from (size - length (b ∷ rest)) (form_in mode (b ∷ rest))

-- the token at an offset of a text, behind all white space there
unfoldable pub token_at : List ℕ → ℕ → Mode → Result (Option Token) BadToken
token_at text at mode = token_in mode (length text) (behind_blanks (drop at text))
