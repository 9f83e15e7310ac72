-- The grammar of device tree source (Devicetree Specification 0.4, chapter 6): a source as a tree, and its symbols in order.
use Rattle.std.specs.Prelude.{◌≡◌, ℕ, zero, suc, Bool, true, false, List, [], ◌∷◌, ◌++◌, ◌+◌, ◌<◌, ◌≤◌, length, take}
use Rattle.hv_dtgram.specs.declared.symbol.Symbol.{Symbol}
use Rattle.hv_dtgram.specs.declared.symbol.Symbol.TheVariants.{Version, Root, NodeOpen, NodeClose, Semicolon, Equals, Label, PropName, NodeName, EitherName, CellsOpen, CellsClose, BytesOpen, BytesClose, Comma, Text, Number, Reference, Pair}

-- a value: cells, of which each may be a reference; a string; bytes; the path of a reference
pub data SourceValue : Type 0 where
  cells : (references : List Bool) → SourceValue
  text : SourceValue
  bytes : (count : ℕ) → SourceValue
  path : SourceValue

-- a property: its labels, whether its name could be a node's, its values
pub record SourceProp : Type 0 where
  pub labels : ℕ
  pub either : Bool
  pub values : List SourceValue

-- nodes in a row, each with its labels, whether its name could be a property's, and what stands in it
pub data SourceNodes : Type 0 where
  none : SourceNodes
  more : (labels : ℕ) (either : Bool) (props : List SourceProp) (children rest : SourceNodes) → SourceNodes

-- Below, each function gives the symbols of a part, and behind them a tail.

-- labels
abbrev pub labels_then : ℕ → List Symbol → List Symbol
labels_then zero tail = tail
labels_then (suc labels) tail = Label ∷ labels_then labels tail

-- the name of a property, and of a node
abbrev pub prop_name : Bool → Symbol
prop_name true = EitherName
prop_name false = PropName

abbrev pub node_name : Bool → Symbol
node_name true = EitherName
node_name false = NodeName

-- numbers and references, and the mark that closes them
abbrev pub cells_then : List Bool → List Symbol → List Symbol
cells_then [] tail = CellsClose ∷ tail
cells_then (true ∷ references) tail = Reference ∷ cells_then references tail
cells_then (false ∷ references) tail = Number ∷ cells_then references tail

-- pairs of digits, and the mark that closes them
abbrev pub bytes_then : ℕ → List Symbol → List Symbol
bytes_then zero tail = BytesClose ∷ tail
bytes_then (suc count) tail = Pair ∷ bytes_then count tail

abbrev pub value_then : SourceValue → List Symbol → List Symbol
value_then (cells references) tail = CellsOpen ∷ cells_then references tail
value_then text tail = Text ∷ tail
value_then (bytes count) tail = BytesOpen ∷ bytes_then count tail
value_then path tail = Reference ∷ tail

-- further values, each behind a comma, and a semicolon
abbrev pub further_then : List SourceValue → List Symbol → List Symbol
further_then [] tail = Semicolon ∷ tail
further_then (value ∷ values) tail = Comma ∷ value_then value (further_then values tail)

-- no value or several, and a semicolon
abbrev pub values_then : List SourceValue → List Symbol → List Symbol
values_then [] tail = Semicolon ∷ tail
values_then (value ∷ values) tail = Equals ∷ value_then value (further_then values tail)

abbrev pub prop_then : SourceProp → List Symbol → List Symbol
prop_then prop tail = labels_then prop.labels (prop_name prop.either ∷ values_then prop.values tail)

abbrev pub props_then : List SourceProp → List Symbol → List Symbol
props_then [] tail = tail
props_then (prop ∷ props) tail = prop_then prop (props_then props tail)

abbrev pub nodes_then : SourceNodes → List Symbol → List Symbol
nodes_then none tail = tail
nodes_then (more labels either props children rest) tail =
    labels_then labels (node_name either ∷ NodeOpen ∷ props_then props (nodes_then children (NodeClose ∷ Semicolon ∷ nodes_then rest tail)))

-- symbols that are those of a source: the version, and the root with what stands in it
pub record IsSource (symbols : List Symbol) : Type 0 where
  pub props : List SourceProp
  pub nodes : SourceNodes
  pub parts : symbols ≡ Version ∷ Semicolon ∷ Root ∷ NodeOpen ∷ props_then props (nodes_then nodes (NodeClose ∷ Semicolon ∷ []))

-- up to an offset the symbols are a front of a source, and with the one there, or at the end, they are none
pub record IsUnexpectedAt (symbols : List Symbol) (at : ℕ) : Type 0 where
  pub within : at ≤ length symbols
  pub rest : List Symbol
  pub front : IsSource (take at symbols ++ rest)
  pub not_here : at < length symbols → (rest : List Symbol) → IsSource (take (at + 1) symbols ++ rest) → ⊥
  pub not_all : at ≡ length symbols → IsSource symbols → ⊥
