-- The rules that the contents of a source keep, with the places where they are broken.
use Rattle.std.specs.Prelude.{ℕ, List, [], ◌∷◌, ◌++◌, map, min, Bool, true, false, not, ◌==◌, nat_eq, if◌then◌else◌, Option, Some, None}
use Rattle.std.specs.Option.{option_map, option_or}
use Rattle.std.specs.List.{list_any, flat_map}
use Rattle.std.specs.Cmp.Lexicographic.{pointwise}
use Rattle.hv_dtgram.specs.Contents.{PropSyntax, NodesSyntax, none, node, SourceSyntax, entries_of, entry_labels}
use Rattle.hv_dts.specs.Bytes.{cell_lists_references, paths_references, is_phandle_name, phandle_number}
use Rattle.hv_dtgram.specs.declared.contents.Named.{Named}
use Rattle.hv_dtgram.specs.declared.contents.Entry.{Entry}
use Rattle.hv_dtgram.specs.declared.contents.Entry.TheVariants as entry
use Rattle.hv_dts.specs.declared.refusal.DtsRefusal.{DtsRefusal}
use Rattle.hv_dts.specs.declared.refusal.DtsRefusal.TheVariants as refusal

-- whether a name is among these
abbrev pub has_name : List (List ℕ) → List ℕ → Bool
has_name names name = list_any (λ one. pointwise nat_eq one name) names

-- a place, where the rule is broken there
abbrev pub place_if : Bool → ℕ → List ℕ
place_if true place = place ∷ []
place_if false place = []

-- the places of names that are among earlier ones
abbrev pub repeated : List (List ℕ) → List Named → List ℕ
repeated earlier [] = []
repeated earlier (name ∷ names) = place_if (has_name earlier name.name) name.place ++ repeated (name.name ∷ earlier) names

-- those of properties of one node
abbrev pub props_repeated : List (List ℕ) → List PropSyntax → List ℕ
props_repeated earlier [] = []
props_repeated earlier (prop ∷ props) =
    place_if (has_name earlier prop.name.name) prop.name.place ++ props_repeated (prop.name.name ∷ earlier) props

-- those of nodes that have these earlier siblings, and of all that stands in the nodes
abbrev pub nodes_repeated : List (List ℕ) → NodesSyntax → List ℕ
nodes_repeated earlier none = []
nodes_repeated earlier (node labels name props children rest) =
    place_if (has_name earlier name.name) name.place ++ (props_repeated [] props ++ (nodes_repeated [] children ++ nodes_repeated (name.name ∷ earlier) rest))

-- all labels in order
abbrev pub labels_of : List Entry → List Named
labels_of entries = flat_map entry_labels entries

-- the places of the labels of the file, and of the names of properties and children of a node, that an earlier one has
abbrev pub twice_named : SourceSyntax → List ℕ
twice_named source =
    repeated [] (labels_of (entries_of source)) ++ (props_repeated [] source.props ++ nodes_repeated [] source.nodes)

-- the place of a phandle that is no number or an earlier one
abbrev pub bad_place : List ℕ → ℕ → Option ℕ → List ℕ
bad_place earlier place None = place ∷ []
bad_place earlier place (Some number) = place_if (list_any (λ one. one == number) earlier) place

-- these numbers, and that of a phandle
abbrev pub with_number : List ℕ → Option ℕ → List ℕ
with_number earlier None = earlier
with_number earlier (Some number) = number ∷ earlier

-- the place of an entry that is a bad phandle
abbrev pub bad_here : List ℕ → Entry → List ℕ
bad_here earlier (entry.Property labels name values) = if is_phandle_name name.name then bad_place earlier name.place (phandle_number values) else []
bad_here earlier (entry.Open labels name) = []
bad_here earlier entry.Close = []

-- the numbers of phandles behind an entry
abbrev pub numbers_after : List ℕ → Entry → List ℕ
numbers_after earlier (entry.Property labels name values) = if is_phandle_name name.name then with_number earlier (phandle_number values) else earlier
numbers_after earlier (entry.Open labels name) = earlier
numbers_after earlier entry.Close = earlier

-- the places of phandles that are no numbers or earlier ones
abbrev pub bad_phandles : List ℕ → List Entry → List ℕ
bad_phandles earlier [] = []
bad_phandles earlier (one ∷ entries) = bad_here earlier one ++ bad_phandles (numbers_after earlier one) entries

-- the labels of nodes
abbrev pub node_labels : Entry → List Named
node_labels (entry.Property labels name values) = []
node_labels (entry.Open labels name) = labels
node_labels entry.Close = []

-- the references in lists of cells, and the others
abbrev pub cell_references : Entry → List Named
cell_references (entry.Property labels name values) = cell_lists_references values
cell_references (entry.Open labels name) = []
cell_references entry.Close = []

abbrev pub path_references : Entry → List Named
path_references (entry.Property labels name values) = paths_references values
path_references (entry.Open labels name) = []
path_references entry.Close = []

-- the names among names with places
abbrev pub names_of : List Named → List (List ℕ)
names_of labels = map (λ label. label.name) labels

-- the places of references to labels that are none of these
abbrev pub unlabelled : List (List ℕ) → List Named → List ℕ
unlabelled labels [] = []
unlabelled labels (name ∷ names) = place_if (not (has_name labels name.name)) name.place ++ unlabelled labels names

-- the places of references to labels that no node has
abbrev pub unlabelled_references : List Entry → List ℕ
unlabelled_references entries =
    let labels = names_of (flat_map node_labels entries) in
    unlabelled labels (flat_map cell_references entries) ++ unlabelled labels (flat_map path_references entries)

-- the lesser of two places, where they are there
abbrev pub lesser : Option ℕ → Option ℕ → Option ℕ
lesser None other = other
lesser (Some place) None = Some place
lesser (Some place) (Some other) = Some (min place other)

-- the least of some places
abbrev pub least : List ℕ → Option ℕ
least [] = None
least (place ∷ places) = lesser (Some place) (least places)

-- the first rule that is broken, with the least place where it is
abbrev pub broken_rule : SourceSyntax → Option DtsRefusal
broken_rule source =
    let entries = entries_of source in
    option_or (option_map (λ place. refusal.TwiceNamed place) (least (twice_named source)))
    (option_or (option_map (λ place. refusal.BadPhandle place) (least (bad_phandles [] entries)))
    (option_map (λ place. refusal.NoLabel place) (least (unlabelled_references entries))))
