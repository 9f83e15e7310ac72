-- The tokens of a text, one behind the other, and the symbols that they are.
use Rattle.std.specs.Prelude.{◌≡◌, ℕ, List, [], ◌∷◌, ◌++◌, length, take, drop, map, codes, Bool, true, ◌&&◌, ◌||◌, ◌==◌, nat_lt, if◌then◌else◌, Option, Some, None, Result, Ok, Err}
use Rattle.std.specs.Char.{is_ascii_alphanumeric}
use Rattle.std.specs.List.{list_all, list_any, prefix_len, slice_get}
use Rattle.hv_dtlex.specs.Tokens.{token_at}
use Rattle.hv_dtlex.specs.declared.token.Token.{Token}
use Rattle.hv_dtlex.specs.declared.token.BadToken.{BadToken}
use Rattle.hv_dtlex.specs.declared.token.TokenKind.{TokenKind}
use Rattle.hv_dtlex.specs.declared.token.TokenKind.TheVariants as kind
use Rattle.hv_dtlex.specs.declared.token.Mode.{Mode}
use Rattle.hv_dtlex.specs.declared.token.Mode.TheVariants.{Name, Value, Hex}
use Rattle.hv_dtgram.specs.Source.{IsSource, IsUnexpectedAt}
use Rattle.hv_dtgram.specs.declared.symbol.Symbol.{Symbol}
use Rattle.hv_dtgram.specs.declared.symbol.Symbol.TheVariants as on

-- the mode behind a token
abbrev pub mode_after : Mode → TokenKind → Mode
mode_after mode kind.Equals = Value
mode_after mode kind.Semicolon = Name
mode_after mode kind.BytesOpen = Hex
mode_after mode kind.BytesClose = Value
mode_after mode other = mode

-- how a text ends: with no token more, or at an offset where no token stands
abbrev pub end_of : Option ℕ → Result (Option Token) BadToken
end_of None = Ok None
end_of (Some bad) = Err (record { 0 = bad })

-- from an offset on the text has these tokens, and ends so
abbrev pub Lexes : List ℕ → ℕ → Mode → List Token → Option ℕ → Type 0
Lexes text at mode [] ending = token_at text at mode ≡ end_of ending
Lexes text at mode (token ∷ tokens) ending =
    (token_at text at mode ≡ Ok (Some token)) × Lexes text token.end (mode_after mode token.kind) tokens ending

-- a letter, a digit or one of `,._+-`
abbrev pub is_node_byte : ℕ → Bool
is_node_byte b = is_ascii_alphanumeric b || list_any (λ mark. mark == b) (codes ",._+-")

-- such a byte, `?` or `#`
abbrev pub is_prop_byte : ℕ → Bool
is_prop_byte b = is_ascii_alphanumeric b || list_any (λ mark. mark == b) (codes ",._+-?#")

-- 1 to 31 bytes of a property's name
abbrev pub is_prop_name : List ℕ → Bool
is_prop_name word = nat_lt 0 (length word) && (nat_lt (length word) 32 && list_all is_prop_byte word)

-- nothing, or an at sign and one or more bytes of a node's name
abbrev pub is_unit_address : List ℕ → Bool
is_unit_address [] = true
is_unit_address (b ∷ rest) = (b == 64) && (nat_lt 0 (length rest) && list_all is_node_byte rest)

-- 1 to 31 bytes of a node's name, and perhaps a unit address
abbrev pub is_node_name : List ℕ → Bool
is_node_name word =
    let base = prefix_len is_node_byte word in
    nat_lt 0 base && (nat_lt base 32 && is_unit_address (drop base word))

-- what a word can name
abbrev pub word_symbol : List ℕ → Symbol
word_symbol word =
    if is_prop_name word then (if is_node_name word then on.EitherName else on.PropName)
    else (if is_node_name word then on.NodeName else on.NoName)

-- the bytes of a token
abbrev pub token_text : List ℕ → Token → List ℕ
token_text text token = drop token.start (take token.end text)

-- the symbol of a kind, where a word is this one
abbrev pub kind_symbol : TokenKind → Symbol → Symbol
kind_symbol kind.Version word = on.Version
kind_symbol kind.Root word = on.Root
kind_symbol kind.NodeOpen word = on.NodeOpen
kind_symbol kind.NodeClose word = on.NodeClose
kind_symbol kind.Semicolon word = on.Semicolon
kind_symbol kind.Equals word = on.Equals
kind_symbol kind.Label word = on.Label
kind_symbol kind.Word word = word
kind_symbol kind.CellsOpen word = on.CellsOpen
kind_symbol kind.CellsClose word = on.CellsClose
kind_symbol kind.BytesOpen word = on.BytesOpen
kind_symbol kind.BytesClose word = on.BytesClose
kind_symbol kind.Comma word = on.Comma
kind_symbol kind.Text word = on.Text
kind_symbol kind.Number word = on.Number
kind_symbol kind.Reference word = on.Reference
kind_symbol kind.Pair word = on.Pair

-- the symbol of a token
abbrev pub symbol_of : List ℕ → Token → Symbol
symbol_of text token = kind_symbol token.kind (word_symbol (token_text text token))

abbrev pub symbols_of : List ℕ → List Token → List Symbol
symbols_of text tokens = map (symbol_of text) tokens

-- the text is the tokens of a source
pub record IsSourceText (text : List ℕ) (tokens : List Token) : Type 0 where
  pub lexes : Lexes text 0 Name tokens None
  pub source : IsSource (symbols_of text tokens)

-- the tokens before an offset are a front of a source, and no token stands there
pub record IsBadTokenAt (text : List ℕ) (offset : ℕ) : Type 0 where
  pub tokens : List Token
  pub lexes : Lexes text 0 Name tokens (Some offset)
  pub rest : List Symbol
  pub front : IsSource (symbols_of text tokens ++ rest)

-- the offset is that of the token at a place, or of the text's end
abbrev pub IsStart : List ℕ → Option ℕ → Option Token → ℕ → Type 0
IsStart text ending None offset = (ending ≡ None) × (offset ≡ length text)
IsStart text ending (Some token) offset = offset ≡ token.start

-- the tokens before an offset are a front of a source, and with the token there, or the end, they are none
pub record IsUnexpectedIn (text : List ℕ) (offset : ℕ) : Type 0 where
  pub tokens : List Token
  pub ending : Option ℕ
  pub place : ℕ
  pub lexes : Lexes text 0 Name tokens ending
  pub unexpected : IsUnexpectedAt (symbols_of text tokens) place
  pub start : IsStart text ending (slice_get tokens place) offset
