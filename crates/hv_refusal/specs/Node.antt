-- The paths of nodes in a device tree.
use Rattle.std.specs.Prelude.{◌≡◌, ◌⊎◌, ℕ, List, [], ◌∷◌}
use Rattle.std.specs.List.{AllByRecursion}
use Rattle.hv_dtree.specs.Names.{IsNodeByte, IsUnitAddress, IsNodeName}
use Rattle.hv_data.specs.Reading.{parts_at}

-- Each of these may stand in a node's name.
abbrev pub AreNodeBytes : List ℕ → Type 0
AreNodeBytes bytes = AllByRecursion IsNodeByte bytes

-- A name ends here, or goes on with a unit address.
abbrev pub IsUnit : List ℕ → Type 0
IsUnit text = (text ≡ []) ⊎ IsUnitAddress text

-- A node's path is a slash, and the names on the way with a slash between two.
abbrev pub IsNodePath : List ℕ → Type 0
IsNodePath path = (names : List ℕ) × (path ≡ 47 ∷ names) × AllByRecursion IsNodeName (parts_at 47 names)

-- A path is its own word.
abbrev pub node_path_text : List ℕ → List ℕ
node_path_text path = path
