-- The bytes of a property's value, where it is known what its references lead to.
use Rattle.std.specs.Prelude.{ℕ, ◌/◌, ◌%◌, List, [], ◌∷◌, ◌++◌, length, Bool, ◌&&◌, ◌==◌, nat_eq, nat_lt, if◌then◌else◌, Option, Some, None, codes}
use Rattle.std.specs.Cmp.Lexicographic.{pointwise}
use Rattle.hv_dtree.specs.Nodes.{big_endian}
use Rattle.hv_dtgram.specs.declared.contents.Named.{Named}
use Rattle.hv_dtgram.specs.declared.contents.Cell.{Cell}
use Rattle.hv_dtgram.specs.declared.contents.Cell.TheVariants as cell
use Rattle.hv_dtgram.specs.declared.contents.Value.{Value}
use Rattle.hv_dtgram.specs.declared.contents.Value.TheVariants as value

-- the phandle and the path of the node that a label names
pub record Links : Type 0 where
  pub number : List ℕ → ℕ
  pub path : List ℕ → List ℕ

-- the four bytes of a cell, the highest first
abbrev pub cell_bytes : ℕ → List ℕ
cell_bytes n = n / 16777216 % 256 ∷ n / 65536 % 256 ∷ n / 256 % 256 ∷ n % 256 ∷ []

abbrev pub cells_bytes : Links → List Cell → List ℕ
cells_bytes links [] = []
cells_bytes links (cell.Number n ∷ cells) = cell_bytes n ++ cells_bytes links cells
cells_bytes links (cell.Phandle label ∷ cells) = cell_bytes (links.number label.name) ++ cells_bytes links cells

-- behind a string and a path stands a zero byte
abbrev pub value_bytes : Links → Value → List ℕ
value_bytes links (value.Cells cells) = cells_bytes links cells
value_bytes links (value.Text bytes) = bytes ++ 0 ∷ []
value_bytes links (value.Bytes bytes) = bytes
value_bytes links (value.Path label) = links.path label.name ++ 0 ∷ []

abbrev pub values_bytes : Links → List Value → List ℕ
values_bytes links [] = []
values_bytes links (value ∷ values) = value_bytes links value ++ values_bytes links values

-- the references in cells, and in all parts of a value
abbrev pub cells_references : List Cell → List Named
cells_references [] = []
cells_references (cell.Number n ∷ cells) = cells_references cells
cells_references (cell.Phandle label ∷ cells) = label ∷ cells_references cells

abbrev pub value_references : Value → List Named
value_references (value.Cells cells) = cells_references cells
value_references (value.Text bytes) = []
value_references (value.Bytes bytes) = []
value_references (value.Path label) = label ∷ []

abbrev pub values_references : List Value → List Named
values_references [] = []
values_references (value ∷ values) = value_references value ++ values_references values

-- links that lead nowhere
abbrev pub no_links : Links
no_links = record { number = λ label. 0; path = λ label. [] }

-- whether a property is called so
abbrev pub is_phandle_name : List ℕ → Bool
is_phandle_name name = pointwise nat_eq name (codes "phandle")

-- the number of four bytes that are, the highest first, from 1 to 0xfffffffe
abbrev pub number_in : List ℕ → Option ℕ
number_in bytes =
    if (length bytes == 4) && (nat_lt 0 (big_endian bytes) && nat_lt (big_endian bytes) 0xffff_ffff) then Some (big_endian bytes) else None

-- the number of a phandle's value that has no reference
abbrev pub number_without : List Named → List Value → Option ℕ
number_without [] values = number_in (values_bytes no_links values)
number_without (label ∷ labels) values = None

abbrev pub phandle_number : List Value → Option ℕ
phandle_number values = number_without (values_references values) values

-- the references in the lists of cells of a value, and the others
abbrev pub cell_lists_references : List Value → List Named
cell_lists_references [] = []
cell_lists_references (value.Cells cells ∷ values) = cells_references cells ++ cell_lists_references values
cell_lists_references (value.Text bytes ∷ values) = cell_lists_references values
cell_lists_references (value.Bytes bytes ∷ values) = cell_lists_references values
cell_lists_references (value.Path label ∷ values) = cell_lists_references values

abbrev pub paths_references : List Value → List Named
paths_references [] = []
paths_references (value.Cells cells ∷ values) = paths_references values
paths_references (value.Text bytes ∷ values) = paths_references values
paths_references (value.Bytes bytes ∷ values) = paths_references values
paths_references (value.Path label ∷ values) = label ∷ paths_references values
