use Rattle.std.proofs.Common.{◌≡◌, List, [], map, subst, sym, ◌∙◌}
use Rattle.std.specs.Prelude.{Some, Err}
use Rattle.hv_plan.specs.Vcpus.{vcpu_plan}
use Rattle.hv_plan.specs.Links.{region_plans}
use Rattle.hv_plan.specs.Guests.{Fault, own_faults, vcpu_faults, region_faults, link_faults, window_faults, aspace_of, plans_of}
use Rattle.hv_plan.specs.Reading.{Passes}
use Rattle.hv_plan.proofs.Faults.{passes_from_reads}
use Rattle.hv_plan.proofs.Parts.{own_from, vcpus_are, regions_are, links_are, plans_are, windows_are, aliases_are, told_vcpu, told_region, told_link, told_window, told_alias, space_left, aliases_left}
use Rattle.hv_plan.proofs.guest.plan_of.Goals as goal

pub returns-in-Err : goal.returns-in-Err
returns-in-Err c =
    let areas = c.args.areas.now in
    let guest = c.args.guest.now in
    let name = c.as_slice-name.result.now in
    let vcpus = c.nodes_in-vcpus.result.now in
    let regions = c.nodes_in-regions.result.now in
    let own : own_faults guest ≡ [] = own_from guest vcpus regions c.nodes_in-vcpus.ensures c.nodes_in-regions.ensures c.in_default.ensures in
    let vcpu_part = vcpus_are guest name vcpus c.as_slice-name.ensures c.nodes_in-vcpus.ensures in
    let refusal = c.in-Err.refusal in
    told_vcpu areas guest refusal own (subst (λ (fs : List Fault). Passes fs (Err refusal)) vcpu_part (passes_from_reads _ (map vcpu_plan vcpus) refusal c.in-Err.ensures))

pub returns-in-Err-read_regions : goal.returns-in-Err-read_regions
returns-in-Err-read_regions c =
    let areas = c.args.areas.now in
    let guest = c.args.guest.now in
    let name = c.as_slice-name.result.now in
    let vcpus = c.nodes_in-vcpus.result.now in
    let regions = c.nodes_in-regions.result.now in
    let own : own_faults guest ≡ [] = own_from guest vcpus regions c.nodes_in-vcpus.ensures c.nodes_in-regions.ensures c.in_default.ensures in
    let vcpu_part = vcpus_are guest name vcpus c.as_slice-name.ensures c.nodes_in-vcpus.ensures in
    let aspace : Some c.in-Some-child.aspace.now ≡ aspace_of guest = c.in-Some-child.ensures in
    let vcpus_good : vcpu_faults guest ≡ [] = sym vcpu_part ∙ c.in-Ok.ensures.0 in
    let region_part = regions_are areas guest name regions c.as_slice-name.ensures c.nodes_in-regions.ensures in
    let refusal = c.in-Err-read_regions.refusal in
    told_region areas guest refusal own vcpus_good (subst (λ (fs : List Fault). Passes fs (Err refusal)) region_part (passes_from_reads _ (region_plans areas (Some c.in-Some-child.aspace.now) regions) refusal c.in-Err-read_regions.ensures))

pub returns-in-Err-check_links : goal.returns-in-Err-check_links
returns-in-Err-check_links c =
    let areas = c.args.areas.now in
    let guest = c.args.guest.now in
    let name = c.as_slice-name.result.now in
    let vcpus = c.nodes_in-vcpus.result.now in
    let regions = c.nodes_in-regions.result.now in
    let own : own_faults guest ≡ [] = own_from guest vcpus regions c.nodes_in-vcpus.ensures c.nodes_in-regions.ensures c.in_default.ensures in
    let vcpu_part = vcpus_are guest name vcpus c.as_slice-name.ensures c.nodes_in-vcpus.ensures in
    let aspace : Some c.in-Some-child.aspace.now ≡ aspace_of guest = c.in-Some-child.ensures in
    let vcpus_good : vcpu_faults guest ≡ [] = sym vcpu_part ∙ c.in-Ok.ensures.0 in
    let region_part = regions_are areas guest name regions c.as_slice-name.ensures c.nodes_in-regions.ensures in
    let regions_good : region_faults areas guest ≡ [] = sym region_part ∙ c.in-Ok-read_regions.ensures.0 in
    let left = space_left areas guest own vcpus_good regions_good in
    let link_part = links_are guest c.in-Some-child.aspace.now name regions c.as_slice-name.ensures aspace c.nodes_in-regions.ensures in
    let refusal = c.in-Err-check_links.refusal in
    told_link areas guest refusal left (subst (λ (fs : List Fault). Passes fs (Err refusal)) link_part c.in-Err-check_links.ensures)

pub returns-in-Err-check_windows : goal.returns-in-Err-check_windows
returns-in-Err-check_windows c =
    let areas = c.args.areas.now in
    let guest = c.args.guest.now in
    let name = c.as_slice-name.result.now in
    let vcpus = c.nodes_in-vcpus.result.now in
    let regions = c.nodes_in-regions.result.now in
    let own : own_faults guest ≡ [] = own_from guest vcpus regions c.nodes_in-vcpus.ensures c.nodes_in-regions.ensures c.in_default.ensures in
    let vcpu_part = vcpus_are guest name vcpus c.as_slice-name.ensures c.nodes_in-vcpus.ensures in
    let aspace : Some c.in-Some-child.aspace.now ≡ aspace_of guest = c.in-Some-child.ensures in
    let vcpus_good : vcpu_faults guest ≡ [] = sym vcpu_part ∙ c.in-Ok.ensures.0 in
    let region_part = regions_are areas guest name regions c.as_slice-name.ensures c.nodes_in-regions.ensures in
    let regions_good : region_faults areas guest ≡ [] = sym region_part ∙ c.in-Ok-read_regions.ensures.0 in
    let left = space_left areas guest own vcpus_good regions_good in
    let link_part = links_are guest c.in-Some-child.aspace.now name regions c.as_slice-name.ensures aspace c.nodes_in-regions.ensures in
    let links_good : link_faults guest ≡ [] = sym link_part ∙ c.in_default-check_links.ensures in
    let plans : c.in-Ok-read_regions.plans.items ≡ plans_of areas guest = c.in-Ok-read_regions.ensures.1 ∙ plans_are areas guest c.in-Some-child.aspace.now regions aspace c.nodes_in-regions.ensures in
    let window_part = windows_are areas guest name c.as_slice-3.result.now c.as_slice-name.ensures (c.as_slice-3.ensures.value ∙ plans) in
    let refusal = c.in-Err-check_windows.refusal in
    told_window areas guest refusal left links_good (subst (λ (fs : List Fault). Passes fs (Err refusal)) window_part c.in-Err-check_windows.ensures)

pub returns-in-Err-check_aliases : goal.returns-in-Err-check_aliases
returns-in-Err-check_aliases c =
    let areas = c.args.areas.now in
    let guest = c.args.guest.now in
    let name = c.as_slice-name.result.now in
    let vcpus = c.nodes_in-vcpus.result.now in
    let regions = c.nodes_in-regions.result.now in
    let own : own_faults guest ≡ [] = own_from guest vcpus regions c.nodes_in-vcpus.ensures c.nodes_in-regions.ensures c.in_default.ensures in
    let vcpu_part = vcpus_are guest name vcpus c.as_slice-name.ensures c.nodes_in-vcpus.ensures in
    let aspace : Some c.in-Some-child.aspace.now ≡ aspace_of guest = c.in-Some-child.ensures in
    let vcpus_good : vcpu_faults guest ≡ [] = sym vcpu_part ∙ c.in-Ok.ensures.0 in
    let region_part = regions_are areas guest name regions c.as_slice-name.ensures c.nodes_in-regions.ensures in
    let regions_good : region_faults areas guest ≡ [] = sym region_part ∙ c.in-Ok-read_regions.ensures.0 in
    let left = space_left areas guest own vcpus_good regions_good in
    let link_part = links_are guest c.in-Some-child.aspace.now name regions c.as_slice-name.ensures aspace c.nodes_in-regions.ensures in
    let links_good : link_faults guest ≡ [] = sym link_part ∙ c.in_default-check_links.ensures in
    let plans : c.in-Ok-read_regions.plans.items ≡ plans_of areas guest = c.in-Ok-read_regions.ensures.1 ∙ plans_are areas guest c.in-Some-child.aspace.now regions aspace c.nodes_in-regions.ensures in
    let window_part = windows_are areas guest name c.as_slice-3.result.now c.as_slice-name.ensures (c.as_slice-3.ensures.value ∙ plans) in
    let windows_good : window_faults areas guest ≡ [] = sym window_part ∙ c.in_default-check_windows.ensures in
    let alias_part = aliases_are areas guest name c.as_slice-4.result.now c.as_slice-name.ensures (c.as_slice-4.ensures.value ∙ plans) in
    let refusal = c.in-Err-check_aliases.refusal in
    told_alias areas guest refusal (aliases_left areas guest left links_good windows_good) (subst (λ (fs : List Fault). Passes fs (Err refusal)) alias_part c.in-Err-check_aliases.ensures)
