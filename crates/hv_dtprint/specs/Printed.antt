-- The text of a tree in device tree source (Devicetree Specification 0.4, chapter 6).
use Rattle.std.specs.Prelude.{ℕ, ◌+◌, ◌/◌, ◌%◌, List, [], ◌∷◌, ◌++◌, replicate, codes, nat_lt, if◌then◌else◌}
use Rattle.std.specs.List.{flat_map}
use Rattle.hv_dtree.specs.declared.node.Prop.{Prop}
use Rattle.hv_dtree.specs.declared.node.Node.{Node}
use Rattle.hv_dtree.specs.declared.node.Node.TheOpen.{Node-F}
use Rattle.hv_dtree.specs.declared.node.Node.TheFolds.{fold-Node}

-- a hexadecimal digit in lower case
abbrev pub hex_digit : ℕ → ℕ
hex_digit n = if nat_lt n 10 then n + 48 else n + 87

-- the two digits of a byte
abbrev pub hex_pair : ℕ → List ℕ
hex_pair byte = hex_digit (byte / 16) ∷ hex_digit (byte % 16) ∷ []

-- what stands behind the name of a property: all bytes with one space between, or nothing where there are none
unfoldable pub value_text : List ℕ → List ℕ
value_text [] = codes ";" ++ 10 ∷ []
value_text (first ∷ rest) =
    codes " = [" ++ hex_pair first ++ flat_map (λ byte. 32 ∷ hex_pair byte) rest ++ (codes "];" ++ 10 ∷ [])

-- a property on its line
abbrev pub prop_text : ℕ → Prop → List ℕ
prop_text depth prop = replicate depth 9 ++ prop.name ++ value_text prop.value

-- the name of a node, and a slash for the root, which has none
abbrev pub shown_name : List ℕ → List ℕ
shown_name [] = codes "/"
shown_name (b ∷ rest) = b ∷ rest

-- the first line of a node, and its properties
unfoldable pub head_text : ℕ → List ℕ → List Prop → List ℕ
head_text depth name props =
    replicate depth 9 ++ shown_name name ++ (codes " {" ++ 10 ∷ []) ++ flat_map (prop_text (depth + 1)) props

-- the last line of a node
unfoldable pub foot_text : ℕ → List ℕ
foot_text depth = replicate depth 9 ++ (codes "};" ++ 10 ∷ [])

-- a node with its properties and then its children, each a level deeper
abbrev pub node_layer : Node-F (ℕ → List ℕ) → ℕ → List ℕ
node_layer layer depth =
    head_text depth layer.name layer.props ++ (flat_map (λ child. child (depth + 1)) layer.children ++ foot_text depth)

-- the text of a node at a depth
unfoldable pub node_text : Node → ℕ → List ℕ
node_text node = fold-Node (ℕ → List ℕ) node_layer node

-- the version, an empty line and the root
abbrev pub tree_text : Node → List ℕ
tree_text root = (codes "/dts-v1/;" ++ 10 ∷ 10 ∷ []) ++ node_text root 0
