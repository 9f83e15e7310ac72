-- The plan of a guest, or its first fault.
use Rattle.std.specs.Prelude.{◌≡◌, ℕ, Bool, ◌||◌, List, [], ◌∷◌, ◌++◌, length, map, nat_lt, codes, Option, Some, None, Result, Ok, Err}
use Rattle.std.specs.List.{flat_map, enumerate_from}
use Rattle.hv_text.specs.Path.{path_text}
use Rattle.hv_text.specs.declared.limits.TheConstants.{GUEST_VCPUS, GUEST_REGIONS}
use Rattle.hv_dtree.specs.Nodes.{node_at, child_named, children_of, name_of}
use Rattle.hv_dtree.specs.declared.node.Node.{Node}
use Rattle.hv_region.specs.declared.plan.RegionPlan.{RegionPlan}
use Rattle.hv_plan.specs.Properties.{nodes_in, first_of}
use Rattle.hv_plan.specs.Vcpus.{when, vcpu_causes, vcpu_plan}
use Rattle.hv_plan.specs.Regions.{region_causes}
use Rattle.hv_plan.specs.Links.{link_causes, region_plans}
use Rattle.hv_plan.specs.Windows.{overlap_causes, alias_causes}
use Rattle.hv_region.specs.declared.plan.GuestPlan.{GuestPlan}
use Rattle.hv_kinds.specs.declared.cause.Cause.{Cause}
use Rattle.hv_kinds.specs.declared.cause.Cause.TheVariants.{Missing, TooMany}
use Rattle.hv_plan.specs.declared.refusal.PlanRefusal.{PlanRefusal}
use Rattle.hv_plan.specs.declared.refusal.PlanRefusal.TheVariants.{NoGuest, BadNode, Memory}

-- the path of a faulty node, and what is wrong with it
abbrev pub Fault : Type 0
Fault = List ℕ × Cause

-- what is wrong with each of some items, which have names and stand in one node
abbrev pub faults_from : {X : Type 0} → List (List ℕ) → (X → List ℕ) → (ℕ → X → List Cause) → ℕ → List X → List Fault
faults_from above name causes row items =
    flat_map (λ it. map (λ cause. (path_text (above ++ name it.1 ∷ []), cause)) (causes it.0 it.1)) (enumerate_from row items)

-- the nodes of a guest's VCPUs and regions
abbrev pub vcpus_of : Node → List Node
vcpus_of guest = nodes_in guest (codes "vcpus")

abbrev pub regions_of : Node → List Node
regions_of guest = nodes_in guest (codes "aspace")

-- a guest without VCPUs or regions, or with too many
abbrev pub is_empty : List Node → Bool
is_empty nodes = nat_lt (length nodes) 1

abbrev pub causes_of_count : List Node → List Node → List Cause
causes_of_count vcpus regions =
    when (is_empty vcpus || is_empty regions) Missing ++ when (nat_lt GUEST_VCPUS (length vcpus) || nat_lt GUEST_REGIONS (length regions)) TooMany

abbrev pub guest_causes : Node → List Cause
guest_causes guest = causes_of_count (vcpus_of guest) (regions_of guest)

-- the paths to a guest and to the nodes in which its VCPUs and its regions stand
abbrev pub in_guests : List (List ℕ)
in_guests = codes "guests" ∷ []

abbrev pub in_vcpus : List ℕ → List (List ℕ)
in_vcpus guest = codes "guests" ∷ guest ∷ codes "vcpus" ∷ []

abbrev pub in_regions : List ℕ → List (List ℕ)
in_regions guest = codes "guests" ∷ guest ∷ codes "aspace" ∷ []

-- the address space of a guest
abbrev pub aspace_of : Node → Option Node
aspace_of guest = child_named (codes "aspace") (children_of guest)

-- the plans of a guest's regions
abbrev pub plans_of : List (List ℕ × ℕ) → Node → List RegionPlan
plans_of areas guest = region_plans areas (aspace_of guest) (regions_of guest)

-- the faults of a guest by itself, of each VCPU and of each region
abbrev pub own_faults : Node → List Fault
own_faults guest = faults_from in_guests name_of (λ row node. guest_causes node) 0 (guest ∷ [])

abbrev pub vcpu_faults : Node → List Fault
vcpu_faults guest = faults_from (in_vcpus (name_of guest)) name_of (λ row node. vcpu_causes node) 0 (vcpus_of guest)

abbrev pub region_faults : List (List ℕ × ℕ) → Node → List Fault
region_faults areas guest = faults_from (in_regions (name_of guest)) name_of (λ row node. region_causes areas node) 0 (regions_of guest)

-- those of the regions' interrupts, of windows that meet and of aliases without a target
abbrev pub link_faults : Node → List Fault
link_faults guest = faults_from (in_regions (name_of guest)) name_of (link_causes (aspace_of guest) (regions_of guest)) 0 (regions_of guest)

abbrev pub window_faults : List (List ℕ × ℕ) → Node → List Fault
window_faults areas guest = faults_from (in_regions (name_of guest)) (λ plan. plan.name) (overlap_causes (plans_of areas guest)) 0 (plans_of areas guest)

abbrev pub alias_faults : List (List ℕ × ℕ) → Node → List Fault
alias_faults areas guest = faults_from (in_regions (name_of guest)) (λ plan. plan.name) (alias_causes (plans_of areas guest)) 0 (plans_of areas guest)

-- all faults of a guest in the order in which they are told
abbrev pub faults_of : List (List ℕ × ℕ) → Node → List Fault
faults_of areas guest =
    own_faults guest ++ (vcpu_faults guest ++ (region_faults areas guest ++ (link_faults guest ++ (window_faults areas guest ++ alias_faults areas guest))))

-- a plan is what the guest's node says
pub record IsPlan (areas : List (List ℕ × ℕ)) (guest : Node) (plan : GuestPlan) : Type 0 where
  pub name : plan.name ≡ name_of guest
  pub vcpus : plan.vcpus.items ≡ map vcpu_plan (vcpus_of guest)
  pub regions : plan.regions.items ≡ plans_of areas guest

-- the plan of a guest where nothing is wrong, or its first fault, or that there is no such guest
abbrev pub Plans : List (List ℕ × ℕ) → Option Node → Result GuestPlan PlanRefusal → Type 0
Plans areas None (Ok plan) = ⊥
Plans areas None (Err NoGuest) = Unit {0}
Plans areas None (Err (BadNode path cause)) = ⊥
Plans areas None (Err (Memory e)) = Unit {0}
Plans areas (Some guest) (Ok plan) = (faults_of areas guest ≡ []) × IsPlan areas guest plan
Plans areas (Some guest) (Err NoGuest) = ⊥
Plans areas (Some guest) (Err (BadNode path cause)) = first_of (faults_of areas guest) ≡ Some (path, cause)
Plans areas (Some guest) (Err (Memory e)) = Unit {0}

-- the node of a guest
abbrev pub guest_node : Node → List ℕ → Option Node
guest_node root name = node_at (codes "guests" ∷ name ∷ []) root
