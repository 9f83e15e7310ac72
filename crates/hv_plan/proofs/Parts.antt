-- The first fault of a guest, part by part.
use Rattle.std.proofs.Common.{◌≡◌, ℕ, List, [], ◌++◌, refl, sym, ap, ◌∙◌}
use Rattle.std.specs.Prelude.{Option, Some, None, Err}
use Rattle.std.proofs.lemmas.List.{append-nil}
use Rattle.hv_dtree.specs.Nodes.{name_of}
use Rattle.hv_dtree.specs.declared.node.Node.{Node}
use Rattle.hv_region.specs.declared.plan.RegionPlan.{RegionPlan}
use Rattle.hv_plan.specs.Properties.{first_of}
use Rattle.hv_plan.specs.Vcpus.{vcpu_causes}
use Rattle.hv_plan.specs.Regions.{region_causes}
use Rattle.hv_plan.specs.Links.{link_causes, region_plans}
use Rattle.hv_plan.specs.Windows.{overlap_causes, alias_causes}
use Rattle.hv_plan.specs.Guests.{Fault, faults_from, faults_of, own_faults, vcpu_faults, region_faults, link_faults, window_faults, alias_faults, guest_causes, causes_of_count, vcpus_of, regions_of, aspace_of, plans_of, in_vcpus, in_regions, Plans}
use Rattle.hv_plan.specs.Reading.{Passes}
use Rattle.hv_plan.specs.declared.refusal.PlanRefusal.{PlanRefusal}
use Rattle.hv_plan.proofs.Faults.{told_part, none_first}

-- the parts as they are read from what the code holds
pub vcpus_are : (guest : Node) (name : List ℕ) (nodes : List Node) → name ≡ name_of guest → nodes ≡ vcpus_of guest → faults_from (in_vcpus name) name_of (λ row node. vcpu_causes node) 0 nodes ≡ vcpu_faults guest
vcpus_are guest name nodes n ns =
    ap (λ (m : List ℕ). faults_from (in_vcpus m) name_of (λ row node. vcpu_causes node) 0 nodes) n ∙ ap (faults_from (in_vcpus (name_of guest)) name_of (λ row node. vcpu_causes node) 0) ns

pub regions_are : (areas : List (List ℕ × ℕ)) (guest : Node) (name : List ℕ) (nodes : List Node) → name ≡ name_of guest → nodes ≡ regions_of guest → faults_from (in_regions name) name_of (λ row node. region_causes areas node) 0 nodes ≡ region_faults areas guest
regions_are areas guest name nodes n ns =
    ap (λ (m : List ℕ). faults_from (in_regions m) name_of (λ row node. region_causes areas node) 0 nodes) n ∙ ap (faults_from (in_regions (name_of guest)) name_of (λ row node. region_causes areas node) 0) ns

pub links_are : (guest aspace : Node) (name : List ℕ) (nodes : List Node) → name ≡ name_of guest → Some aspace ≡ aspace_of guest → nodes ≡ regions_of guest → faults_from (in_regions name) name_of (link_causes (Some aspace) nodes) 0 nodes ≡ link_faults guest
links_are guest aspace name nodes n a ns =
    ap (λ (m : List ℕ). faults_from (in_regions m) name_of (link_causes (Some aspace) nodes) 0 nodes) n
    ∙ (ap (λ (b : Option Node). faults_from (in_regions (name_of guest)) name_of (link_causes b nodes) 0 nodes) a
    ∙ ap (λ (ms : List Node). faults_from (in_regions (name_of guest)) name_of (link_causes (aspace_of guest) ms) 0 ms) ns)

pub plans_are : (areas : List (List ℕ × ℕ)) (guest aspace : Node) (nodes : List Node) → Some aspace ≡ aspace_of guest → nodes ≡ regions_of guest → region_plans areas (Some aspace) nodes ≡ plans_of areas guest
plans_are areas guest aspace nodes a ns = ap (λ (b : Option Node). region_plans areas b nodes) a ∙ ap (region_plans areas (aspace_of guest)) ns

pub windows_are : (areas : List (List ℕ × ℕ)) (guest : Node) (name : List ℕ) (plans : List RegionPlan) → name ≡ name_of guest → plans ≡ plans_of areas guest → faults_from (in_regions name) (λ plan. plan.name) (overlap_causes plans) 0 plans ≡ window_faults areas guest
windows_are areas guest name plans n ps =
    ap (λ (m : List ℕ). faults_from (in_regions m) (λ plan. plan.name) (overlap_causes plans) 0 plans) n
    ∙ ap (λ (qs : List RegionPlan). faults_from (in_regions (name_of guest)) (λ plan. plan.name) (overlap_causes qs) 0 qs) ps

pub aliases_are : (areas : List (List ℕ × ℕ)) (guest : Node) (name : List ℕ) (plans : List RegionPlan) → name ≡ name_of guest → plans ≡ plans_of areas guest → faults_from (in_regions name) (λ plan. plan.name) (alias_causes plans) 0 plans ≡ alias_faults areas guest
aliases_are areas guest name plans n ps =
    ap (λ (m : List ℕ). faults_from (in_regions m) (λ plan. plan.name) (alias_causes plans) 0 plans) n
    ∙ ap (λ (qs : List RegionPlan). faults_from (in_regions (name_of guest)) (λ plan. plan.name) (alias_causes qs) 0 qs) ps

-- a guest whose numbers of VCPUs and regions are good has no fault by itself
pub own_none : (guest : Node) → first_of (guest_causes guest) ≡ None → own_faults guest ≡ []
own_none guest none = rw (none_first (guest_causes guest) none) refl

-- the first fault is told where all parts before it are empty
pub told_vcpu : (areas : List (List ℕ × ℕ)) (guest : Node) (refusal : PlanRefusal) → own_faults guest ≡ [] → Passes (vcpu_faults guest) (Err refusal) → Plans areas (Some guest) (Err refusal)
told_vcpu areas guest refusal own =
    let behind = region_faults areas guest ++ (link_faults guest ++ (window_faults areas guest ++ alias_faults areas guest)) in
    told_part areas guest (vcpu_faults guest) behind refusal (ap (λ (fs : List Fault). fs ++ (vcpu_faults guest ++ behind)) own)

pub told_region : (areas : List (List ℕ × ℕ)) (guest : Node) (refusal : PlanRefusal) → own_faults guest ≡ [] → vcpu_faults guest ≡ [] → Passes (region_faults areas guest) (Err refusal) → Plans areas (Some guest) (Err refusal)
told_region areas guest refusal own vcpus =
    let behind = link_faults guest ++ (window_faults areas guest ++ alias_faults areas guest) in
    told_part areas guest (region_faults areas guest) behind refusal
    (ap (λ (fs : List Fault). fs ++ (vcpu_faults guest ++ (region_faults areas guest ++ behind))) own ∙ ap (λ (fs : List Fault). fs ++ (region_faults areas guest ++ behind)) vcpus)

-- the faults of the regions among themselves are left where nothing is wrong with each node
pub space_left : (areas : List (List ℕ × ℕ)) (guest : Node) → own_faults guest ≡ [] → vcpu_faults guest ≡ [] → region_faults areas guest ≡ [] → faults_of areas guest ≡ link_faults guest ++ (window_faults areas guest ++ alias_faults areas guest)
space_left areas guest own vcpus regions =
    let behind = link_faults guest ++ (window_faults areas guest ++ alias_faults areas guest) in
    ap (λ (fs : List Fault). fs ++ (vcpu_faults guest ++ (region_faults areas guest ++ behind))) own
    ∙ (ap (λ (fs : List Fault). fs ++ (region_faults areas guest ++ behind)) vcpus ∙ ap (λ (fs : List Fault). fs ++ behind) regions)

pub told_link : (areas : List (List ℕ × ℕ)) (guest : Node) (refusal : PlanRefusal) → faults_of areas guest ≡ link_faults guest ++ (window_faults areas guest ++ alias_faults areas guest) → Passes (link_faults guest) (Err refusal) → Plans areas (Some guest) (Err refusal)
told_link areas guest refusal left = told_part areas guest (link_faults guest) (window_faults areas guest ++ alias_faults areas guest) refusal left

pub told_window : (areas : List (List ℕ × ℕ)) (guest : Node) (refusal : PlanRefusal) → faults_of areas guest ≡ link_faults guest ++ (window_faults areas guest ++ alias_faults areas guest) → link_faults guest ≡ [] → Passes (window_faults areas guest) (Err refusal) → Plans areas (Some guest) (Err refusal)
told_window areas guest refusal left links =
    told_part areas guest (window_faults areas guest) (alias_faults areas guest) refusal (left ∙ ap (λ (fs : List Fault). fs ++ (window_faults areas guest ++ alias_faults areas guest)) links)

-- no fault is left but those of aliases
pub aliases_left : (areas : List (List ℕ × ℕ)) (guest : Node) → faults_of areas guest ≡ link_faults guest ++ (window_faults areas guest ++ alias_faults areas guest) → link_faults guest ≡ [] → window_faults areas guest ≡ [] → faults_of areas guest ≡ alias_faults areas guest
aliases_left areas guest left links windows =
    left ∙ (ap (λ (fs : List Fault). fs ++ (window_faults areas guest ++ alias_faults areas guest)) links ∙ ap (λ (fs : List Fault). fs ++ alias_faults areas guest) windows)

-- the same from what the code holds
pub own_from : (guest : Node) (vcpus regions : List Node) → vcpus ≡ vcpus_of guest → regions ≡ regions_of guest → None ≡ first_of (causes_of_count vcpus regions) → own_faults guest ≡ []
own_from guest vcpus regions vs rs none =
    own_none guest (sym (none ∙ (ap (λ (ns : List Node). first_of (causes_of_count ns regions)) vs ∙ ap (λ (ns : List Node). first_of (causes_of_count (vcpus_of guest) ns)) rs)))

-- the last part
pub told_alias : (areas : List (List ℕ × ℕ)) (guest : Node) (refusal : PlanRefusal) → faults_of areas guest ≡ alias_faults areas guest → Passes (alias_faults areas guest) (Err refusal) → Plans areas (Some guest) (Err refusal)
told_alias areas guest refusal left = told_part areas guest (alias_faults areas guest) [] refusal (left ∙ sym (append-nil (alias_faults areas guest)))
