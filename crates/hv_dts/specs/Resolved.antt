-- The tree that the contents of a source stand for.
use Rattle.std.specs.Prelude.{◌≡◌, ℕ, ◌+◌, ◌≤◌, ◌<◌, List, [], ◌∷◌, ◌++◌, map, zip, Bool, true, false, ◌&&◌, not, ◌==◌, nat_eq, is_some, Option, Some, None, codes}
use Rattle.std.specs.Option.{option_map, option_and_then, option_or, unwrap_or}
use Rattle.std.specs.List.{list_any, find, flat_map, fold}
use Rattle.std.specs.Cmp.Lexicographic.{pointwise}
use Rattle.hv_dtree.specs.declared.node.Prop.{Prop}
use Rattle.hv_dtree.specs.declared.node.Node.{Node}
use Rattle.hv_dtree.specs.declared.node.Node.TheViews.{roll-Node}
use Rattle.hv_dtgram.specs.Contents.{PropSyntax, NodesSyntax, none, node, SourceSyntax, entries_of}
use Rattle.hv_dts.specs.Bytes.{Links, cell_bytes, values_bytes, is_phandle_name, phandle_number}
use Rattle.hv_dts.specs.Rules.{has_name, names_of, cell_references, numbers_after}
use Rattle.hv_dtgram.specs.declared.contents.Named.{Named}
use Rattle.hv_dtgram.specs.declared.contents.Entry.{Entry}

-- a node: its labels, its path, and the phandle that it has in the source
pub record Site : Type 0 where
  pub labels : List Named
  pub path : List ℕ
  pub own : Option ℕ

-- the phandle among some properties
abbrev pub own_phandle : List PropSyntax → Option ℕ
own_phandle props = option_and_then (λ prop. phandle_number prop.values) (find (λ prop. is_phandle_name prop.name.name) props)

-- nodes in order, each before those below it, under a path
abbrev pub nodes_sites : List ℕ → NodesSyntax → List Site
nodes_sites above none = []
nodes_sites above (node labels name props children rest) =
    record { labels = labels; path = above ++ 47 ∷ name.name; own = own_phandle props }
    ∷ (nodes_sites (above ++ 47 ∷ name.name) children ++ nodes_sites above rest)

-- the labels that lists of cells refer to
abbrev pub asked_labels : List Entry → List (List ℕ)
asked_labels entries = names_of (flat_map cell_references entries)

-- the numbers of the phandles of a source
abbrev pub used_numbers : List Entry → List ℕ
used_numbers entries = fold numbers_after [] entries

-- a node has one of these labels, and no phandle
abbrev pub is_needy : List (List ℕ) → Site → Bool
is_needy asked site = not (is_some site.own) && list_any (λ label. has_name asked label.name) site.labels

-- the least number that is free from one on
pub record IsLeastFree (used : List ℕ) (from number : ℕ) : Type 0 where
  pub at_least : from ≤ number
  pub free : list_any (λ one. one == number) used ≡ false
  pub below : (n : ℕ) → from ≤ n → n < number → list_any (λ one. one == n) used ≡ true

-- of nodes in order the needy ones get the least numbers that are free from one on
pub data AreGiven (asked : List (List ℕ)) (used : List ℕ) : ℕ → List Site → List (Option ℕ) → Type 0 where
  no_nodes : {from : ℕ} → AreGiven asked used from [] []
  gets_number : {from : ℕ} {sites : List Site} {given : List (Option ℕ)} (site : Site) (number : ℕ)
      → is_needy asked site ≡ true → IsLeastFree used from number → AreGiven asked used (number + 1) sites given
      → AreGiven asked used from (site ∷ sites) (Some number ∷ given)
  gets_none : {from : ℕ} {sites : List Site} {given : List (Option ℕ)} (site : Site)
      → is_needy asked site ≡ false → AreGiven asked used from sites given
      → AreGiven asked used from (site ∷ sites) (None ∷ given)

-- whether a node has a label
abbrev pub has_label : List ℕ → Site → Bool
has_label name site = list_any (λ label. pointwise nat_eq label.name name) site.labels

-- a node with what it was given, and the phandle that it has then, or 0
abbrev pub Numbered : Type 0
Numbered = Site × Option ℕ

abbrev pub number_then : Numbered → ℕ
number_then numbered = unwrap_or (option_or numbered.0.own numbered.1) 0

-- what labels lead to
abbrev pub links_of : List Numbered → Links
links_of nodes = record {
  number = λ name. unwrap_or (option_map number_then (find (λ numbered. has_label name numbered.0) nodes)) 0;
  path = λ name. unwrap_or (option_map (λ numbered. numbered.0.path) (find (λ numbered. has_label name numbered.0) nodes)) [];
}

abbrev pub prop_tree : Links → PropSyntax → Prop
prop_tree links prop = record { name = prop.name.name; value = values_bytes links prop.values }

-- the property of a number that was given
abbrev pub number_prop : Option ℕ → List Prop
number_prop None = []
number_prop (Some number) = record { name = codes "phandle"; value = cell_bytes number } ∷ []

-- what the first of some nodes was given
abbrev pub given_first : List (Option ℕ) → Option ℕ
given_first [] = None
given_first (first ∷ given) = first

-- what the nodes behind the first, and behind some nodes with all below them, were given
abbrev pub given_next : List (Option ℕ) → List (Option ℕ)
given_next [] = []
given_next (first ∷ given) = given

abbrev pub given_behind : NodesSyntax → List (Option ℕ) → List (Option ℕ)
given_behind none given = given
given_behind (node labels name props children rest) given = given_behind rest (given_behind children (given_next given))

-- the trees of nodes that in their order were given this
abbrev pub nodes_trees : Links → NodesSyntax → List (Option ℕ) → List Node
nodes_trees links none given = []
nodes_trees links (node labels name props children rest) given =
    roll-Node (record {
      name = name.name;
      props = map (prop_tree links) props ++ number_prop (given_first given);
      children = nodes_trees links children (given_next given);
    })
    ∷ nodes_trees links rest (given_behind children (given_next given))

-- the root, which has no name
abbrev pub root_tree : Links → SourceSyntax → List (Option ℕ) → Node
root_tree links source given =
    roll-Node (record { name = []; props = map (prop_tree links) source.props; children = nodes_trees links source.nodes given })

-- the tree that a source stands for
pub record IsTreeOf (source : SourceSyntax) (tree : Node) : Type 0 where
  pub given : List (Option ℕ)
  pub least_free : AreGiven (asked_labels (entries_of source)) (used_numbers (entries_of source)) 1 (nodes_sites [] source.nodes) given
  pub is : tree ≡ root_tree (links_of (zip (nodes_sites [] source.nodes) given)) source given
