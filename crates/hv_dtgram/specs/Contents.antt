-- What a device tree source contains, as a tree, and the tokens that it is written with (Devicetree Specification 0.4, chapter 6).
use Rattle.std.specs.Prelude.{◌≡◌, ℕ, ◌-◌, ◌%◌, List, [], ◌∷◌, length, take, drop, map, true, None}
use Rattle.std.specs.Option.{unwrap_or}
use Rattle.std.specs.List.{AllByRecursion}
use Rattle.hv_dtlex.specs.Values.{value_of_number, cell_of, string_bytes}
use Rattle.hv_dtlex.specs.declared.token.Token.{Token}
use Rattle.hv_dtlex.specs.declared.token.TokenKind.{TokenKind}
use Rattle.hv_dtlex.specs.declared.token.TokenKind.TheVariants as kind
use Rattle.hv_dtlex.specs.declared.token.Mode.TheVariants.{Name}
use Rattle.hv_dtgram.specs.Lexed.{Lexes, token_text, is_prop_name, is_node_name, kind_symbol}
use Rattle.hv_dtgram.specs.declared.symbol.Symbol.{Symbol}
use Rattle.hv_dtgram.specs.declared.symbol.Symbol.TheVariants as on
use Rattle.hv_dtgram.specs.declared.contents.Named.{Named}
use Rattle.hv_dtgram.specs.declared.contents.Cell.{Cell}
use Rattle.hv_dtgram.specs.declared.contents.Cell.TheVariants as cell
use Rattle.hv_dtgram.specs.declared.contents.Value.{Value}
use Rattle.hv_dtgram.specs.declared.contents.Value.TheVariants as value
use Rattle.hv_dtgram.specs.declared.contents.Entry.{Entry}
use Rattle.hv_dtgram.specs.declared.contents.Entry.TheVariants as entry

-- a property with its labels and values
pub record PropSyntax : Type 0 where
  pub labels : List Named
  pub name : Named
  pub values : List Value

-- nodes in a row, each with its labels, its name and what stands in it
pub data NodesSyntax : Type 0 where
  none : NodesSyntax
  node : (labels : List Named) (name : Named) (props : List PropSyntax) (children rest : NodesSyntax) → NodesSyntax

-- what stands in the root
pub record SourceSyntax : Type 0 where
  pub props : List PropSyntax
  pub nodes : NodesSyntax

-- properties in order, before further entries
abbrev pub props_entries : List PropSyntax → List Entry → List Entry
props_entries [] tail = tail
props_entries (prop ∷ props) tail = entry.Property prop.labels prop.name prop.values ∷ props_entries props tail

-- nodes in order with what stands in them, before further entries
abbrev pub nodes_entries : NodesSyntax → List Entry → List Entry
nodes_entries none tail = tail
nodes_entries (node labels name props children rest) tail =
    entry.Open labels name ∷ props_entries props (nodes_entries children (entry.Close ∷ nodes_entries rest tail))

-- all that stands in the root in order
abbrev pub entries_of : SourceSyntax → List Entry
entries_of source = props_entries source.props (nodes_entries source.nodes [])

-- what a token says: a mark, a name with its place, or a value
pub data Piece : Type 0 where
  mark : Symbol → Piece
  label : Named → Piece
  word : Named → Piece
  number : ℕ → Piece
  text : List ℕ → Piece
  pair : ℕ → Piece
  reference : Named → Piece

-- the piece of a token that has these bytes and begins at a place
abbrev pub kind_piece : TokenKind → List ℕ → ℕ → Piece
kind_piece kind.Label bytes place = label (record { name = take (length bytes - 1) bytes; place = place })
kind_piece kind.Word bytes place = word (record { name = bytes; place = place })
kind_piece kind.Number bytes place = number (unwrap_or (value_of_number bytes) 0)
kind_piece kind.Text bytes place = text (string_bytes (drop 1 bytes))
kind_piece kind.Pair bytes place = pair (unwrap_or (cell_of 16 bytes) 0 % 256)
kind_piece kind.Reference bytes place = reference (record { name = drop 1 bytes; place = place })
kind_piece kind bytes place = mark (kind_symbol kind on.NoName)

abbrev pub piece_of : List ℕ → Token → Piece
piece_of source token = kind_piece token.kind (token_text source token) token.start

-- Below, each function gives the pieces of a part, and behind them a tail.

-- labels
abbrev pub labels_pieces : List Named → List Piece → List Piece
labels_pieces [] tail = tail
labels_pieces (name ∷ names) tail = label name ∷ labels_pieces names tail

-- numbers and references, and the mark that closes them
abbrev pub cells_pieces : List Cell → List Piece → List Piece
cells_pieces [] tail = mark on.CellsClose ∷ tail
cells_pieces (cell.Number value ∷ cells) tail = number value ∷ cells_pieces cells tail
cells_pieces (cell.Phandle name ∷ cells) tail = reference name ∷ cells_pieces cells tail

-- pairs of digits, and the mark that closes them
abbrev pub bytes_pieces : List ℕ → List Piece → List Piece
bytes_pieces [] tail = mark on.BytesClose ∷ tail
bytes_pieces (byte ∷ bytes) tail = pair byte ∷ bytes_pieces bytes tail

abbrev pub value_pieces : Value → List Piece → List Piece
value_pieces (value.Cells cells) tail = mark on.CellsOpen ∷ cells_pieces cells tail
value_pieces (value.Text bytes) tail = text bytes ∷ tail
value_pieces (value.Bytes bytes) tail = mark on.BytesOpen ∷ bytes_pieces bytes tail
value_pieces (value.Path name) tail = reference name ∷ tail

-- further values, each behind a comma, and a semicolon
abbrev pub further_pieces : List Value → List Piece → List Piece
further_pieces [] tail = mark on.Semicolon ∷ tail
further_pieces (value ∷ values) tail = mark on.Comma ∷ value_pieces value (further_pieces values tail)

-- no value or several, and a semicolon
abbrev pub values_pieces : List Value → List Piece → List Piece
values_pieces [] tail = mark on.Semicolon ∷ tail
values_pieces (value ∷ values) tail = mark on.Equals ∷ value_pieces value (further_pieces values tail)

abbrev pub entry_pieces : Entry → List Piece → List Piece
entry_pieces (entry.Property labels name values) tail = labels_pieces labels (word name ∷ values_pieces values tail)
entry_pieces (entry.Open labels name) tail = labels_pieces labels (word name ∷ mark on.NodeOpen ∷ tail)
entry_pieces entry.Close tail = mark on.NodeClose ∷ mark on.Semicolon ∷ tail

abbrev pub entries_pieces : List Entry → List Piece → List Piece
entries_pieces [] tail = tail
entries_pieces (one ∷ entries) tail = entry_pieces one (entries_pieces entries tail)

-- the version, and the root with what stands in it
abbrev pub source_pieces : List Entry → List Piece
source_pieces entries =
    mark on.Version ∷ mark on.Semicolon ∷ mark on.Root ∷ mark on.NodeOpen ∷ entries_pieces entries (mark on.NodeClose ∷ mark on.Semicolon ∷ [])

-- the name of a property or a node is of its form
abbrev pub IsWellNamed : Entry → Type 0
IsWellNamed (entry.Property labels name values) = is_prop_name name.name ≡ true
IsWellNamed (entry.Open labels name) = is_node_name name.name ≡ true
IsWellNamed entry.Close = Unit {0}

-- the text is a source that contains this
pub record IsWritten (source : List ℕ) (syntax : SourceSyntax) : Type 0 where
  pub tokens : List Token
  pub lexes : Lexes source 0 Name tokens None
  pub pieces : map (piece_of source) tokens ≡ source_pieces (entries_of syntax)
  pub names : AllByRecursion IsWellNamed (entries_of syntax)

-- the labels of a property or a node
abbrev pub entry_labels : Entry → List Named
entry_labels (entry.Property labels name values) = labels
entry_labels (entry.Open labels name) = labels
entry_labels entry.Close = []

-- the text is a source with these entries
pub record HasEntries (text : List ℕ) (entries : List Entry) : Type 0 where
  pub syntax : SourceSyntax
  pub written : IsWritten text syntax
  pub is : entries ≡ entries_of syntax
