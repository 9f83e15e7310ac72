-- The plans of the host tree's guests: which guest has a name, and what a region's name means in its plan.
use Rattle.std.specs.Prelude.{ℕ, Bool, Option, None, Some, Result, Ok, Err, List, [], ◌∷◌, ◌++◌, codes, find, length, nat_eq, position, slice_get}
use Rattle.std.specs.List.{starts_with}
use Rattle.std.specs.Option.{option_map, option_and_then}
use Rattle.std.specs.Str.{bytes_eq}
use Rattle.hv_region.specs.declared.fault.Fault.{Fault}
use Rattle.hv_region.specs.declared.plan.GuestPlan.{GuestPlan}
use Rattle.hv_region.specs.declared.plan.RegionPlan.{RegionPlan}
use Rattle.hv_region.specs.declared.plan.VcpuPlan.{VcpuPlan}
use Rattle.hv_refusal.specs.declared.refusal.Refusal.{Refusal}
use Rattle.hv_refusal.specs.declared.refusal.Refusal.TheVariants.{NoGuest, BadNode}

-- A guest of the host tree: its plan, or what is wrong with it.
abbrev pub Planned : Type 0
Planned = Result GuestPlan Fault

-- Whether a guest of the host tree has this name; that of a faulty one stands in the path of its fault, before a slash
-- or at the end.
abbrev pub is_named : (name : List ℕ) → Planned → Bool
is_named name (Ok plan) = bytes_eq plan.name name
is_named name (Err fault) = starts_with nat_eq (fault.path ++ 47 ∷ []) (codes "/guests/" ++ name ++ 47 ∷ [])

-- The guest of the host tree with a name.
abbrev pub planned : List Planned → (name : List ℕ) → Option Planned
planned plans name = find (is_named name) plans

-- Why no guest is made of a name, before the directory is asked: the host tree has none of that name, or a faulty one.
abbrev pub refusal_for : Option Planned → Option Refusal
refusal_for None = Some NoGuest
refusal_for (Some (Err fault)) = Some (BadNode fault.path fault.cause)
refusal_for (Some (Ok plan)) = None

-- A good plan.
abbrev pub good : Option Planned → Option GuestPlan
good None = None
good (Some (Err fault)) = None
good (Some (Ok plan)) = Some plan

-- The good plan of the guest with a name.
abbrev pub plan_of : List Planned → (name : List ℕ) → Option GuestPlan
plan_of plans name = good (planned plans name)

-- The regions of a guest by its plan; without a plan it has none.
abbrev pub regions_in : Option GuestPlan → List RegionPlan
regions_in None = []
regions_in (Some plan) = plan.regions.items

abbrev pub regions_of : List Planned → (guest : List ℕ) → List RegionPlan
regions_of plans guest = regions_in (plan_of plans guest)

-- How many VCPUs a guest has by its plan.
abbrev pub vcpus_in : Option GuestPlan → List VcpuPlan
vcpus_in None = []
vcpus_in (Some plan) = plan.vcpus.items

abbrev pub vcpus_of : List Planned → (guest : List ℕ) → List VcpuPlan
vcpus_of plans guest = vcpus_in (plan_of plans guest)

-- The row of a guest's region by its name, if its plan has it.
abbrev pub row_of : List Planned → (guest region : List ℕ) → Option ℕ
row_of plans guest name = position (λ (region : RegionPlan). bytes_eq region.name name) (regions_of plans guest)

-- The plan of a guest's region in a row.
abbrev pub region_at : List Planned → (guest : List ℕ) → (row : Option ℕ) → Option RegionPlan
region_at plans guest row = option_and_then (λ place. slice_get (regions_of plans guest) place) row

-- The plan of a guest's region, with how many VCPUs the guest has.
abbrev pub region_of : List Planned → (guest region : List ℕ) → Option (RegionPlan × ℕ)
region_of plans guest name =
    option_map (λ region. (region, length (vcpus_of plans guest))) (region_at plans guest (row_of plans guest name))
