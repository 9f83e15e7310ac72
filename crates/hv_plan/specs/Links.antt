-- Which region takes the interrupts of another, and the clock.
use Rattle.std.specs.Prelude.{ℕ, Bool, false, ◌&&◌, ◌==◌, not, List, ◌++◌, take, map, if◌then◌else◌, codes, unwrap_or, Option, Some, None}
use Rattle.std.specs.List.{list_any, position_from, enumerate_from}
use Rattle.std.specs.Option.{option_map_or, option_map, option_and_then, option_or}
use Rattle.hv_kinds.specs.declared.address.AddressType.TheVariants.{Memory}
use Rattle.hv_dtree.specs.Nodes.{prop_value, name_of}
use Rattle.hv_dtree.specs.declared.node.Node.{Node}
use Rattle.hv_region.specs.declared.plan.RegionPlan.{RegionPlan}
use Rattle.hv_plan.specs.Properties.{has, cell_in, cell_of}
use Rattle.hv_plan.specs.Vcpus.{when}
use Rattle.hv_plan.specs.Regions.{is_device, sort_of, source_of, type_of, base_of, size_of, form_by}
use Rattle.hv_kinds.specs.declared.cause.Cause.{Cause}
use Rattle.hv_kinds.specs.declared.cause.Cause.TheVariants.{Parent, SourceUsed}

-- a device with interrupts, which are ignored on other regions
abbrev pub interrupts : Node → Bool
interrupts node = is_device node && has node (codes "interrupts")

-- the phandle of a region's parent: its own property, or else that of the address space, where it is one cell
abbrev pub parent_phandle : Option Node → Node → Option ℕ
parent_phandle aspace node =
    let own = prop_value node (codes "interrupt-parent") in
    let of_aspace = option_and_then (λ above. prop_value above (codes "interrupt-parent")) aspace in
    option_and_then cell_in (option_or own of_aspace)

-- whether a region has a phandle
abbrev pub has_phandle : ℕ → Node → Bool
has_phandle phandle region = option_map_or (λ own. own == phandle) (cell_of region (codes "phandle")) false

-- the row of the region that takes a device's interrupts, and the source there, where both are known
abbrev pub link_of : Option Node → List Node → Node → Option (ℕ × ℕ)
link_of aspace regions node =
    let row = option_and_then (λ phandle. position_from (has_phandle phandle) 0 regions) (parent_phandle aspace node) in
    if interrupts node then option_and_then (λ r. option_map (λ source. (r, source)) (source_of node)) row else None

-- the link leads to another region
abbrev pub leads_from : ℕ → Option (ℕ × ℕ) → Bool
leads_from row None = false
leads_from row (Some link) = not (link.0 == row)

-- two links lead to one source
abbrev pub is_same_link : Option (ℕ × ℕ) → Option (ℕ × ℕ) → Bool
is_same_link (Some one) (Some other) = (one.0 == other.0) && (one.1 == other.1)
is_same_link _ _ = false

-- the links of all regions
abbrev pub links_of : Option Node → List Node → List (Option (ℕ × ℕ))
links_of aspace regions = map (link_of aspace regions) regions

-- what is wrong with the interrupts of the region in a row: it has no other region as its parent, or an earlier region
-- has its source
abbrev pub causes_of_link : List (Option (ℕ × ℕ)) → ℕ → Node → Option (ℕ × ℕ) → List Cause
causes_of_link links row node link =
    when (interrupts node && not (leads_from row link)) Parent ++ when (list_any (is_same_link link) (take row links)) SourceUsed

abbrev pub link_causes : Option Node → List Node → ℕ → Node → List Cause
link_causes aspace regions row node = causes_of_link (links_of aspace regions) row node (link_of aspace regions node)

-- a device that is marked as a clock
abbrev pub is_clock : Node → Bool
is_clock node = is_device node && has node (codes "clock")

-- the row of the guest's clock, the first of these
abbrev pub clock_row : List Node → Option ℕ
clock_row regions = position_from is_clock 0 regions

abbrev pub is_row : Option ℕ → ℕ → Bool
is_row clock row = option_map_or (λ clock. clock == row) clock false

-- the plan of the region in a row, where nothing is wrong with it
abbrev pub region_plan : List (List ℕ × ℕ) → Option Node → List Node → ℕ → Node → RegionPlan
region_plan areas aspace regions row node = record {
  name = name_of node;
  kind = unwrap_or (type_of node) Memory;
  base = unwrap_or (base_of node) 0;
  size = unwrap_or (size_of node) 0;
  form = form_by areas node (sort_of node);
  detached = has node (codes "detached");
  clock = is_row (clock_row regions) row;
  parent = link_of aspace regions node;
}

-- the plans of all regions in their order
abbrev pub region_plans : List (List ℕ × ℕ) → Option Node → List Node → List RegionPlan
region_plans areas aspace regions = map (λ it. region_plan areas aspace regions it.0 it.1) (enumerate_from 0 regions)
