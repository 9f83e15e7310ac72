-- Properties of nodes as numbers and texts.
use Rattle.std.specs.Prelude.{ℕ, Bool, false, ◌&&◌, ◌||◌, ◌==◌, List, [], ◌∷◌, ◌++◌, length, nat_eq, nat_le, if◌then◌else◌, is_some, Option, Some, None}
use Rattle.std.specs.List.{before_first}
use Rattle.std.specs.Option.{option_and_then, option_map_or}
use Rattle.std.specs.Cmp.Lexicographic.{pointwise}
use Rattle.hv_dtree.specs.Nodes.{big_endian, prop_value, child_named, children_of}
use Rattle.hv_dtree.specs.declared.node.Node.{Node}

-- whether a node has a property
abbrev pub has : Node → List ℕ → Bool
has node name = is_some (prop_value node name)

-- the number of one cell
abbrev pub cell_in : List ℕ → Option ℕ
cell_in value = if length value == 4 then Some (big_endian value) else None

-- the number of one or two cells
abbrev pub number_in : List ℕ → Option ℕ
number_in value = if (length value == 4) || (length value == 8) then Some (big_endian value) else None

-- the text before the first zero byte, where the value is this text and one zero byte
abbrev pub text_in : List ℕ → Option (List ℕ)
text_in value =
    let text = before_first (λ b. b == 0) value in
    if pointwise nat_eq value (text ++ 0 ∷ []) then Some text else None

-- the same of a node's property, or nothing where it isn't there
abbrev pub cell_of : Node → List ℕ → Option ℕ
cell_of node name = option_and_then cell_in (prop_value node name)

abbrev pub number_of : Node → List ℕ → Option ℕ
number_of node name = option_and_then number_in (prop_value node name)

abbrev pub text_of : Node → List ℕ → Option (List ℕ)
text_of node name = option_and_then text_in (prop_value node name)

-- the number of a property that may be left out
abbrev pub number_or : ℕ → Node → List ℕ → Option ℕ
number_or default node name = option_map_or number_in (prop_value node name) (Some default)

-- whether a number is there and lies between two others
abbrev pub is_within : ℕ → ℕ → Option ℕ → Bool
is_within low high None = false
is_within low high (Some number) = nat_le low number && nat_le number high

-- whether a property is a text and this one
abbrev pub says : Node → List ℕ → List ℕ → Bool
says node name text = option_map_or (λ found. pointwise nat_eq found text) (text_of node name) false

-- the children of a node's child of a name
abbrev pub nodes_in : Node → List ℕ → List Node
nodes_in node name = option_map_or children_of (child_named name (children_of node)) []

-- the first item, if any
abbrev pub first_of : {X : Type 0} → List X → Option X
first_of [] = None
first_of (x ∷ xs) = Some x
