-- Regions as their nodes say.
use Rattle.std.specs.Prelude.{ℕ, ◌+◌, ◌-◌, Bool, true, false, ◌&&◌, ◌||◌, ◌==◌, not, List, [], ◌∷◌, ◌++◌, length, take, nat_eq, nat_le, if◌then◌else◌, is_some, is_none, codes, unwrap_or, Option, Some, None}
use Rattle.std.specs.List.{list_any, position_from, slice_split, slice_get}
use Rattle.std.specs.Option.{option_map_or, option_map, option_and_then}
use Rattle.std.specs.Cmp.Lexicographic.{pointwise}
use Rattle.hv_kinds.specs.declared.address.AddressType.{AddressType}
use Rattle.hv_kinds.specs.declared.address.AddressType.TheVariants.{Memory, Io}
use Rattle.hv_dtree.specs.Nodes.{prop_value}
use Rattle.hv_dtree.specs.declared.node.Node.{Node}
use Rattle.hv_text.specs.declared.limits.TheConstants.{MOST_MEMORY}
use Rattle.hv_region.specs.Addresses.{end_of}
use Rattle.hv_region.specs.declared.plan.Form.{Form}
use Rattle.hv_region.specs.declared.plan.Form.TheVariants as form
use Rattle.hv_plan.specs.Properties.{has, cell_of, number_of, number_or, text_of, says, is_within}
use Rattle.hv_plan.specs.Vcpus.{when}
use Rattle.hv_kinds.specs.declared.cause.Cause.{Cause}
use Rattle.hv_kinds.specs.declared.cause.Cause.TheVariants as cause
use Rattle.hv_plan.specs.declared.region.TheConstants.{LAST_SOURCE}
use Rattle.hv_plan.specs.declared.sort.Sort.{Sort}
use Rattle.hv_plan.specs.declared.sort.Sort.TheVariants.{Ram, Rom, Device, Real, Alias}

-- what sort of region a node means: a virtual one is a device unless it is memory
abbrev pub sort_of : Node → Option Sort
sort_of node =
    if says node (codes "manifest_type") (codes "virtual")
    then Some (if says node (codes "device_type") (codes "ram") then Ram else (if says node (codes "device_type") (codes "rom") then Rom else Device))
    else (if says node (codes "manifest_type") (codes "real") then Some Real else (if says node (codes "manifest_type") (codes "alias") then Some Alias else None))

-- the type of its addresses
abbrev pub type_of : Node → Option AddressType
type_of node =
    if says node (codes "address_type") (codes "memory") then Some Memory
    else (if says node (codes "address_type") (codes "io") then Some Io else None)

-- where a region begins
abbrev pub base_of : Node → Option ℕ
base_of node = number_of node (codes "guest_physical_addr")

-- how many bytes a region has
abbrev pub size_of : Node → Option ℕ
size_of node = number_of node (codes "physical_size")

-- an area, as its name and its size, has this name
abbrev pub is_named : List ℕ → List ℕ × ℕ → Bool
is_named name area = pointwise nat_eq area.0 name

-- the place of the area that a region shows
abbrev pub area_of : List (List ℕ × ℕ) → Node → Option ℕ
area_of areas node = option_and_then (λ name. position_from (is_named name) 0 areas) (text_of node (codes "host_area"))

-- that place, where there is one
abbrev pub area_row : List (List ℕ × ℕ) → Node → ℕ
area_row areas node = unwrap_or (area_of areas node) 0

-- how many bytes that area has
abbrev pub area_len : List (List ℕ × ℕ) → Node → Option ℕ
area_len areas node = option_and_then (λ area. option_map (λ it. it.1) (slice_get areas area)) (area_of areas node)

-- where in its area a region begins
abbrev pub offset_of : Node → Option ℕ
offset_of node = number_or 0 node (codes "area_offset")

-- the address that an alias stands for
abbrev pub alias_of : Node → Option ℕ
alias_of node = number_of node (codes "alias_physical_addr")

-- the strings of a value, each of which ends in a zero byte; what stands behind the last one is none
abbrev pub strings_in : List ℕ → List (List ℕ)
strings_in value = let pieces = slice_split (λ b. b == 0) value in take (length pieces - 1) pieces

abbrev pub compatible_of : Node → List (List ℕ)
compatible_of node = option_map_or strings_in (prop_value node (codes "compatible")) []

abbrev pub is_device_sort : Option Sort → Bool
is_device_sort (Some Device) = true
is_device_sort _ = false

-- whether a region is a device
abbrev pub is_device : Node → Bool
is_device node = is_device_sort (sort_of node)

-- the properties that a region of a sort must have beside those of each region
abbrev pub required_by : Option Sort → List (List ℕ)
required_by (Some Device) = codes "compatible" ∷ []
required_by (Some Real) = codes "host_area" ∷ []
required_by (Some Alias) = codes "alias_physical_addr" ∷ []
required_by _ = []

-- the properties that a region must have
abbrev pub required : Option Sort → List (List ℕ)
required sort = codes "manifest_type" ∷ codes "address_type" ∷ codes "guest_physical_addr" ∷ codes "physical_size" ∷ required_by sort

-- the source of a device's interrupts, which is a number from 1 to the last one in one cell
abbrev pub source_of : Node → Option ℕ
source_of node = let source = cell_of node (codes "interrupts") in if is_within 1 LAST_SOURCE source then source else None

-- at least one address, and none behind those of the type
abbrev pub is_range : Option AddressType → Option ℕ → Option ℕ → Bool
is_range (Some kind) (Some base) (Some size) = nat_le 1 size && nat_le (base + size) (end_of kind)
is_range _ _ _ = false

-- a part of an area, if the area is there
abbrev pub is_part : Option ℕ → Option ℕ → Option ℕ → Bool
is_part (Some offset) (Some size) (Some area) = nat_le (offset + size) area
is_part (Some offset) _ _ = true
is_part None _ _ = false

-- what a region of a sort is to keep
abbrev pub keeps_sort : List (List ℕ × ℕ) → Node → Option Sort → Bool
keeps_sort areas node None = true
keeps_sort areas node (Some Ram) = is_within 1 MOST_MEMORY (size_of node)
keeps_sort areas node (Some Rom) = is_within 1 MOST_MEMORY (size_of node)
keeps_sort areas node (Some Device) = not (has node (codes "interrupts")) || is_some (source_of node)
keeps_sort areas node (Some Real) = is_part (offset_of node) (size_of node) (area_len areas node)
keeps_sort areas node (Some Alias) = is_some (alias_of node)

abbrev pub is_region : List (List ℕ × ℕ) → Node → Bool
is_region areas node = is_range (type_of node) (base_of node) (size_of node) && keeps_sort areas node (sort_of node)

-- a real region whose area isn't there
abbrev pub has_no_area : List (List ℕ × ℕ) → Node → Option Sort → Bool
has_no_area areas node (Some Real) = is_none (area_of areas node)
has_no_area areas node _ = false

-- what is wrong with a region's node by itself, in the order in which it is told
abbrev pub region_causes : List (List ℕ × ℕ) → Node → List Cause
region_causes areas node =
    when (list_any (λ name. not (has node name)) (required (sort_of node))) cause.Missing
    ++ (when (is_none (sort_of node) || is_none (type_of node)) cause.Kind
    ++ (when (not (is_region areas node)) cause.Form
    ++ when (has_no_area areas node (sort_of node)) cause.NoArea))

-- what a region of which nothing is wrong is made of
abbrev pub form_by : List (List ℕ × ℕ) → Node → Option Sort → Form
form_by areas node None = form.Ram
form_by areas node (Some Ram) = form.Ram
form_by areas node (Some Rom) = form.Rom
form_by areas node (Some Device) = form.Device (compatible_of node)
form_by areas node (Some Real) = form.Real (area_row areas node) (unwrap_or (offset_of node) 0)
form_by areas node (Some Alias) = form.Alias (unwrap_or (alias_of node) 0)
