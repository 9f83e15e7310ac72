-- The settings of a host and their limits.
use Rattle.std.specs.Prelude.{◌≡◌, ℕ, ◌+◌, Bool, ◌&&◌, not, List, [], ◌∷◌, ◌++◌, length, map, filter, max, nat_le, if◌then◌else◌, codes, unwrap_or, Option, Some, Result, Ok, Err}
use Rattle.std.specs.Option.{option_and_then, option_map_or}
use Rattle.hv_text.specs.Path.{path_text}
use Rattle.hv_text.specs.declared.limits.TheConstants.{HARTS, MOST_AREAS, MOST_MEMORY}
use Rattle.hv_kinds.specs.declared.limit.LimitName.{LimitName}
use Rattle.hv_kinds.specs.declared.limit.LimitName.TheVariants.{Nest, Areas, Guests}
use Rattle.hv_dtree.specs.Nodes.{prop_value, child_named, children_of, name_of}
use Rattle.hv_dtree.specs.declared.node.Node.{Node}
use Rattle.hv_dtree.specs.declared.node.Node.TheFolds.{fold-Node}
use Rattle.hv_plan.specs.Properties.{cell_in, number_of, is_within, nodes_in, first_of}
use Rattle.hv_plan.specs.declared.host.Host.{Host}
use Rattle.hv_plan.specs.declared.host.TheConstants.{MOST_NEST, MOST_GUESTS}
use Rattle.hv_plan.specs.declared.refusal.HostRefusal.{HostRefusal}
use Rattle.hv_plan.specs.declared.refusal.HostRefusal.TheVariants.{BadHost, Limit, Memory}

-- a setting of one cell, or its default where the node or the property isn't there
abbrev pub setting : ℕ → Node → List ℕ → Option ℕ
setting default root name = option_map_or cell_in (option_and_then (λ node. prop_value node name) (child_named (codes "vmm") (children_of root))) (Some default)

-- how many harts there are, and how many turns each has
abbrev pub harts_of : Node → Option ℕ
harts_of root = setting 2 root (codes "harts")

abbrev pub turns_of : Node → Option ℕ
turns_of root = setting 1000 root (codes "turns")

-- the nodes of the areas and those of the guests
abbrev pub areas_of : Node → List Node
areas_of root = nodes_in root (codes "areas")

abbrev pub guests_of : Node → List Node
guests_of root = nodes_in root (codes "guests")

-- how many bytes an area has
abbrev pub area_size : Node → Option ℕ
area_size node = number_of node (codes "size")

-- what is to be true of the settings, and of an area
abbrev pub is_machine : Node → Bool
is_machine root = is_within 1 HARTS (harts_of root) && is_within 0 100000 (turns_of root)

abbrev pub is_area : Node → Bool
is_area node = is_within 1 MOST_MEMORY (area_size node)

-- the paths of the faulty nodes, in the order in which they are told
abbrev pub machine_faults : Node → List (List ℕ)
machine_faults root = if is_machine root then [] else path_text (codes "vmm" ∷ []) ∷ []

abbrev pub area_path : Node → List ℕ
area_path node = path_text (codes "areas" ∷ name_of node ∷ [])

abbrev pub area_faults : List Node → List (List ℕ)
area_faults nodes = map area_path (filter (λ node. not (is_area node)) nodes)

abbrev pub host_faults : Node → List (List ℕ)
host_faults root = machine_faults root ++ area_faults (areas_of root)

-- the greatest of some numbers, or zero
abbrev pub greatest : List ℕ → ℕ
greatest [] = 0
greatest (n ∷ ns) = max n (greatest ns)

-- how many nodes lie in one another, from a node down
unfoldable pub nest_of : Node → ℕ
nest_of = fold-Node ℕ (λ layer. 1 + greatest layer.children)

-- a number that passes its limit
abbrev pub over : LimitName → ℕ → ℕ → List (LimitName × ℕ)
over name most number = if nat_le number most then [] else (name, number) ∷ []

-- the limits that are passed, in their order, with what was counted
abbrev pub passed : ℕ → ℕ → ℕ → List (LimitName × ℕ)
passed nest areas guests =
    over Nest MOST_NEST nest ++ (over Areas MOST_AREAS areas ++ over Guests MOST_GUESTS guests)

abbrev pub limits_passed : Node → List (LimitName × ℕ)
limits_passed root = passed (nest_of root) (length (areas_of root)) (length (guests_of root))

-- an area's name and how many bytes it has
abbrev pub area_of_node : Node → List ℕ × ℕ
area_of_node node = (name_of node, unwrap_or (area_size node) 0)

-- a host is what the tree says of it
pub record IsHost (root : Node) (host : Host) : Type 0 where
  pub harts : harts_of root ≡ Some host.harts
  pub turns : turns_of root ≡ Some host.turns
  pub areas : host.areas.items ≡ map area_of_node (areas_of root)
  pub guests : host.guests.items ≡ map name_of (guests_of root)

-- a host where nothing is wrong, or the first limit that is passed, or else the first faulty node
abbrev pub Settles : Node → Result Host HostRefusal → Type 0
Settles root (Ok host) = (limits_passed root ≡ []) × (host_faults root ≡ []) × IsHost root host
Settles root (Err (Limit name number)) = first_of (limits_passed root) ≡ Some (name, number)
Settles root (Err (BadHost path)) = (limits_passed root ≡ []) × (first_of (host_faults root) ≡ Some path)
Settles root (Err (Memory e)) = Unit {0}
