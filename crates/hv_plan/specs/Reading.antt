-- What the steps of reading a tree give, each of which may run out of memory.
use Rattle.std.specs.Prelude.{◌≡◌, ℕ, true, false, List, [], map, Option, Some, None, Result, Ok, Err, Vec}
use Rattle.std.specs.declared.alloc.Global.{Global}
use denote.Ref.{Bor}
use Rattle.std.specs.List.{flat_map}
use Rattle.hv_dtree.specs.Nodes.{children_of}
use Rattle.hv_dtree.specs.declared.node.Node.{Node}
use Rattle.hv_plan.specs.Properties.{first_of}
use Rattle.hv_plan.specs.Settings.{harts_of, turns_of, area_size, is_machine, is_area, area_faults, area_of_node}
use Rattle.hv_plan.specs.Guests.{Fault}
use Rattle.hv_plan.specs.declared.refusal.HostRefusal.{HostRefusal}
use Rattle.hv_plan.specs.declared.refusal.HostRefusal.TheVariants as host
use Rattle.hv_plan.specs.declared.refusal.PlanRefusal.{PlanRefusal}
use Rattle.hv_plan.specs.declared.refusal.PlanRefusal.TheVariants as plan

-- the settings of harts and turns, or that they break their rules
abbrev pub IsMachine : Node → Option (ℕ × ℕ) → Type 0
IsMachine root None = is_machine root ≡ false
IsMachine root (Some machine) = (is_machine root ≡ true) × (harts_of root ≡ Some machine.0) × (turns_of root ≡ Some machine.1)

-- how many bytes an area has, or that it breaks its rules
abbrev pub IsArea : Node → Option ℕ → Type 0
IsArea node None = is_area node ≡ false
IsArea node (Some size) = (is_area node ≡ true) × (area_size node ≡ Some size)

-- a faulty node, unless memory ran out
abbrev pub TellsHost : List ℕ → HostRefusal → Type 0
TellsHost path (host.BadHost found) = found ≡ path
TellsHost path (host.Limit name number) = ⊥
TellsHost path (host.Memory e) = Unit {0}

-- the areas of nodes, or the first faulty one
abbrev pub ReadsAreas : List Node → Result (Vec (List ℕ × ℕ) Global) HostRefusal → Type 0
ReadsAreas nodes (Ok areas) = (area_faults nodes ≡ []) × (areas.items ≡ map area_of_node nodes)
ReadsAreas nodes (Err (host.BadHost path)) = first_of (area_faults nodes) ≡ Some path
ReadsAreas nodes (Err (host.Limit name number)) = ⊥
ReadsAreas nodes (Err (host.Memory e)) = Unit {0}

-- nodes that are lent, and the children of all of some nodes
abbrev pub nodes_at : List (Bor Node) → List Node
nodes_at lent = map (λ node. node.now) lent

abbrev pub all_children : List Node → List Node
all_children nodes = flat_map children_of nodes

-- what was read from some nodes where nothing is wrong, or the first of their faults
abbrev pub Reads : {X : Type 0} → List Fault → List X → Result (Vec X Global) PlanRefusal → Type 0
Reads faults items (Ok found) = (faults ≡ []) × (found.items ≡ items)
Reads faults items (Err plan.NoGuest) = ⊥
Reads faults items (Err (plan.BadNode path cause)) = first_of faults ≡ Some (path, cause)
Reads faults items (Err (plan.Memory e)) = Unit {0}

-- that nothing is wrong, or the first fault
abbrev pub Passes : List Fault → Result (Unit {0}) PlanRefusal → Type 0
Passes faults (Ok _) = faults ≡ []
Passes faults (Err plan.NoGuest) = ⊥
Passes faults (Err (plan.BadNode path cause)) = first_of faults ≡ Some (path, cause)
Passes faults (Err (plan.Memory e)) = Unit {0}

-- a fault, unless memory ran out
abbrev pub Tells : Fault → PlanRefusal → Type 0
Tells fault plan.NoGuest = ⊥
Tells fault (plan.BadNode path cause) = (path, cause) ≡ fault
Tells fault (plan.Memory e) = Unit {0}
