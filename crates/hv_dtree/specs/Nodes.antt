-- The nodes of a tree and the rules that they keep.
use Rattle.std.specs.Prelude.{◌≡◌, ◌≢◌, ℕ, ◌+◌, ◌*◌, ◌≤◌, List, [], ◌∷◌, length, map, All, Option, Some, nat_eq, codes}
use Rattle.std.specs.List.{find, fold, filter_map, flat_map, AllPairs}
use Rattle.std.specs.Option.{option_map, option_and_then}
use Rattle.std.specs.Cmp.Lexicographic.{pointwise}
use Rattle.hv_dtree.specs.Names.{IsPropName, IsNodeName}
use Rattle.hv_dtree.specs.declared.node.Prop.{Prop}
use Rattle.hv_dtree.specs.declared.node.Node.{Node}
use Rattle.hv_dtree.specs.declared.node.Node.TheOpen.{Node-F}
use Rattle.hv_dtree.specs.declared.node.Node.TheViews.{out-Node, roll-Node}
use Rattle.hv_dtree.specs.declared.node.Node.TheFolds.{fold-Node}

-- the parts of a node
abbrev pub name_of : Node → List ℕ
name_of node = (out-Node node).name

abbrev pub props_of : Node → List Prop
props_of node = (out-Node node).props

abbrev pub children_of : Node → List Node
children_of node = (out-Node node).children

-- a node with all nodes in and below it, each before those below it
abbrev pub node_and_all : Node-F (Node × List Node) → Node × List Node
node_and_all layer =
    let node = roll-Node (record { name = layer.name; props = layer.props; children = map (λ below. below.0) layer.children }) in
    (node, node ∷ flat_map (λ below. below.1) layer.children)

-- all nodes of a tree in order
unfoldable pub nodes_of : Node → List Node
nodes_of root = (fold-Node (Node × List Node) node_and_all root).1

-- the number that bytes hold, the highest first
abbrev pub big_endian : List ℕ → ℕ
big_endian bytes = fold (λ value byte. value * 256 + byte) 0 bytes

-- a cell from 1 to 0xfffffffe
pub record IsPhandle (value : List ℕ) : Type 0 where
  pub four : length value ≡ 4
  pub low : 1 ≤ big_endian value
  pub high : big_endian value ≤ 0xffff_fffe

-- the value of the first of some properties that has a name
abbrev pub value_among : List ℕ → List Prop → Option (List ℕ)
value_among name props = option_map (λ prop. prop.value) (find (λ prop. pointwise nat_eq prop.name name) props)

-- that of a node
abbrev pub prop_value : Node → List ℕ → Option (List ℕ)
prop_value node name = value_among name (props_of node)

-- the phandles of nodes, in their order
abbrev pub phandles_of : List Node → List (List ℕ)
phandles_of nodes = filter_map (λ node. prop_value node (codes "phandle")) nodes

-- the names of a node's properties, and those of its children, are of their forms and different
pub record HasGoodNames (node : Node) : Type 0 where
  pub props : All (λ prop. IsPropName prop.name) (props_of node)
  pub props_apart : AllPairs (λ one other. one.name ≢ other.name) (props_of node)
  pub children : All (λ child. IsNodeName (name_of child)) (children_of node)
  pub children_apart : AllPairs (λ one other. name_of one ≢ name_of other) (children_of node)

-- a root without a name, in which all names are good and all phandles good and different
pub record IsRoot (root : Node) : Type 0 where
  pub unnamed : name_of root ≡ []
  pub names : All HasGoodNames (nodes_of root)
  pub phandles : All IsPhandle (phandles_of (nodes_of root))
  pub phandles_apart : AllPairs (λ one other. one ≢ other) (phandles_of (nodes_of root))

-- the first of some nodes that has a name
abbrev pub child_named : List ℕ → List Node → Option Node
child_named name children = find (λ child. pointwise nat_eq (name_of child) name) children

-- the node that names lead to below a node
abbrev pub node_at : List (List ℕ) → Node → Option Node
node_at [] node = Some node
node_at (name ∷ names) node = option_and_then (node_at names) (child_named name (children_of node))
