-- That each plan keeps the rules.
use Rattle.std.proofs.Common.{◌≡◌, ℕ, zero, suc, ◌+◌, ◌<◌, ◌≤◌, Bool, true, false, not, ◌&&◌, ◌||◌, ltb, leb, List, [], ◌∷◌, length, get_or, take, map, refl, sym, ap, subst, ◌∙◌, arith, get_or-take, length-take-le}
use Rattle.std.specs.Prelude.{Option, Some, None, Result, Ok, Err, IfOk}
use Rattle.std.specs.List.{All, Any, AllPairs, list_any, enumerate_from}
use Rattle.std.proofs.lemmas.Bool.{false≢true, and_parts}
use Rattle.std.proofs.lemmas.Bool.Decides.{nat_tests, Decides-ltb}
use Rattle.std.proofs.lemmas.List.Elements.{All-map, All-same}
use Rattle.std.proofs.lemmas.List.Folds.{Any-from_list_any}
use Rattle.hv_kinds.specs.declared.address.AddressType.{AddressType}
use Rattle.hv_kinds.specs.declared.address.AddressType.TheVariants.{Memory, Io}
use Rattle.hv_dtree.specs.Nodes.{name_of}
use Rattle.hv_dtree.specs.declared.node.Node.{Node}
use Rattle.hv_region.specs.Plans.{IsVcpuPlan, IsRegionPlan}
use Rattle.hv_region.specs.declared.plan.RegionPlan.{RegionPlan}
use Rattle.hv_plan.specs.Vcpus.{vcpu_causes, vcpu_plan}
use Rattle.hv_plan.specs.Regions.{region_causes}
use Rattle.hv_plan.specs.Links.{region_plan}
use Rattle.hv_plan.specs.Windows.{is_same_type, meets, holds, blocks, is_alias, has_range, lacks_target, overlap_causes, alias_causes}
use Rattle.hv_plan.specs.Rules.{KeepsRules, LiesInArea, LieApart, Share, IsTarget, HasTarget}
use Rattle.hv_region.specs.declared.plan.Form.{Form}
use Rattle.hv_region.specs.declared.plan.Form.TheVariants.{Ram, Rom, Device, Real, Alias}
use Rattle.hv_plan.specs.Guests.{Plans, IsPlan, faults_of, own_faults, vcpu_faults, region_faults, link_faults, window_faults, alias_faults, guest_causes, vcpus_of, regions_of, aspace_of, plans_of, in_vcpus, in_regions}
use Rattle.hv_region.specs.declared.plan.GuestPlan.{GuestPlan}
use Rattle.hv_plan.specs.declared.refusal.PlanRefusal.{PlanRefusal}
use Rattle.hv_plan.specs.declared.refusal.PlanRefusal.TheVariants.{NoGuest, BadNode, Memory}
use Rattle.hv_plan.proofs.RuleLemmas.{no_parts, no_map, not_when, no_causes, good_vcpu, good_region, good_area, all_rows, neither}

-- numbers of VCPUs and regions that are neither too small nor too great
counts : (vcpus regions : ℕ) → (ltb vcpus 1 || ltb regions 1) ≡ false → (ltb 4 vcpus || ltb 16 regions) ≡ false → (1 ≤ vcpus) × (1 ≤ regions) × (vcpus ≤ 4) × (regions ≤ 16)
counts vcpus regions some few =
    let least = neither (ltb vcpus 1) (ltb regions 1) some in
    let most = neither (ltb 4 vcpus) (ltb 16 regions) few in
    let a : ltb vcpus 1 ≡ false = least.0 in
    let b : ltb regions 1 ≡ false = least.1 in
    let c : ltb 4 vcpus ≡ false = most.0 in
    let d : ltb 16 regions ≡ false = most.1 in
    (grind (arith, nat_tests), grind (arith, nat_tests), grind (arith, nat_tests), grind (arith, nat_tests))

good_counts : (guest : Node) → own_faults guest ≡ [] → (1 ≤ length (vcpus_of guest)) × (1 ≤ length (regions_of guest)) × (length (vcpus_of guest) ≤ 4) × (length (regions_of guest) ≤ 16)
good_counts guest none =
    let causes : guest_causes guest ≡ [] = no_map _ _ (no_parts _ _ none).0 in
    let parts = no_parts _ _ causes in
    counts (length (vcpus_of guest)) (length (regions_of guest)) (not_when _ _ parts.0) (not_when _ _ parts.1)

-- where no item passes a test, none does
none_passes : {X : Type 0} (test : X → Bool) (xs : List X) → list_any test xs ≡ false → (k : ℕ) (d : X) → k < length xs → test (get_or xs k d) ≡ false
none_passes test [] none k d lt = absurd (omega arith)
none_passes test (x ∷ xs) none zero d lt = (neither (test x) (list_any test xs) none).0
none_passes test (x ∷ xs) none (suc k) d lt = none_passes test xs (neither (test x) (list_any test xs) none).1 k d (omega arith)

same_type : (kind : AddressType) → is_same_type kind kind ≡ true
same_type Memory = refl
same_type Io = refl

share_meets : (one other : RegionPlan) → Share one other → meets one other ≡ true
share_meets one other share =
    let type : is_same_type one.kind other.kind ≡ true = subst (λ (kind : AddressType). is_same_type one.kind kind ≡ true) share.type (same_type one.kind) in
    let front : ltb one.base (other.base + other.size) ≡ true = (Decides-ltb one.base (other.base + other.size)).1 share.front in
    let back : ltb other.base (one.base + one.size) ≡ true = (Decides-ltb other.base (one.base + one.size)).1 share.back in
    rw (type, front) back

-- a region that is to be built and has no cause against it meets no earlier one that is
clear_one : (detached meeting : Bool) → (not detached && meeting) ≡ false → detached ≡ false → meeting ≡ false
clear_one true meeting is built = absurd (false≢true (sym built))
clear_one false meeting is built = is

lie_apart : (plans : List RegionPlan) → ((k : ℕ) (d : RegionPlan) → k < length plans → overlap_causes plans (0 + k) (get_or plans k d) ≡ []) → AllPairs LieApart plans
lie_apart plans none i j d lt within one_built other_built share =
    let one = get_or plans i d in
    let other = get_or plans j d in
    let row : 0 + j ≡ j = omega arith in
    let clear_of : overlap_causes plans j other ≡ [] = subst (λ (n : ℕ). overlap_causes plans n other ≡ []) row (none j d within) in
    let test : (not other.detached && list_any (blocks other) (take j plans)) ≡ false = not_when _ _ clear_of in
    let free : list_any (blocks other) (take j plans) ≡ false = clear_one other.detached (list_any (blocks other) (take j plans)) test other_built in
    let short : length (take j plans) ≡ j = length-take-le j plans (omega arith) in
    let there : get_or (take j plans) i d ≡ one = get_or-take j plans i d lt in
    let blocked : blocks other (get_or (take j plans) i d) ≡ false = none_passes (blocks other) (take j plans) free i d (omega (arith, short)) in
    let at_one : blocks other one ≡ false = subst (λ (plan : RegionPlan). blocks other plan ≡ false) there blocked in
    let apart : meets one other ≡ false = clear_one one.detached (meets one other) at_one one_built in
    false≢true (sym apart ∙ share_meets one other share)

-- a region that has the range of an alias is its target
kinds_same : (one other : AddressType) → is_same_type one other ≡ true → one ≡ other
kinds_same Memory Memory is = refl
kinds_same Memory Io is = absurd (false≢true is)
kinds_same Io Memory is = absurd (false≢true is)
kinds_same Io Io is = refl

not_true : (test : Bool) → not test ≡ true → test ≡ false
not_true true is = absurd (false≢true is)
not_true false is = refl

pub at_least : (low high : ℕ) → leb low high ≡ true → low ≤ high
at_least low high is = grind (arith, nat_tests)

target_is : (region other : RegionPlan) (base : ℕ) → has_range region base other ≡ true → IsTarget region.kind base region.size other
target_is region other base is =
    let parts = and_parts (not other.detached && not (is_alias other.form)) (holds other region.kind base region.size) is in
    let front = and_parts (not other.detached) (not (is_alias other.form)) parts.0 in
    let range = and_parts (is_same_type other.kind region.kind && leb other.base base) (leb (base + region.size) (other.base + other.size)) parts.1 in
    let begin = and_parts (is_same_type other.kind region.kind) (leb other.base base) range.0 in
    let from : leb other.base base ≡ true = begin.1 in
    let to : leb (base + region.size) (other.base + other.size) ≡ true = range.1 in
    record {
      built = not_true other.detached front.0;
      own = not_true (is_alias other.form) front.1;
      kind = kinds_same other.kind region.kind begin.0;
      from = at_least other.base base from;
      to = at_least (base + region.size) (other.base + other.size) to;
    }

any_target : (regions : List RegionPlan) (region : RegionPlan) (base : ℕ) → list_any (has_range region base) regions ≡ true → Any (IsTarget region.kind base region.size) regions
any_target regions region base is =
    let found = Any-from_list_any (has_range region base) regions is in
    (found.0, found.1, found.2, found.3, target_is region found.1 base found.4)

not_false : (test : Bool) → not test ≡ false → test ≡ true
not_false true is = refl
not_false false is = absurd (false≢true (sym is))

target_by : (regions : List RegionPlan) (region : RegionPlan) (form : Form) → (not region.detached && lacks_target regions region form) ≡ false → HasTarget regions region form
target_by regions region Ram is = tt
target_by regions region Rom is = tt
target_by regions region (Device names) is = tt
target_by regions region (Real area offset) is = tt
target_by regions region (Alias base) is = λ built. any_target regions region base (not_false (list_any (has_range region base) regions) (clear_one region.detached (not (list_any (has_range region base) regions)) is built))

have_targets : (plans : List RegionPlan) → ((k : ℕ) (d : RegionPlan) → k < length plans → alias_causes plans (0 + k) (get_or plans k d) ≡ []) → All (λ region. HasTarget plans region region.form) plans
have_targets plans none = λ k d lt. target_by plans (get_or plans k d) (get_or plans k d).form (not_when _ _ (none k d lt))

length_rows : {X : Type 0} (row : ℕ) (xs : List X) → length (enumerate_from row xs) ≡ length xs
length_rows row [] = refl
length_rows row (x ∷ xs) = ap suc (length_rows (row + 1) xs)

pub length_map : {X Y : Type 0} (f : X → Y) (xs : List X) → length (map f xs) ≡ length xs
length_map f [] = refl
length_map f (x ∷ xs) = ap suc (length_map f xs)

-- a guest without faults has a plan that keeps the rules
pub keeps : (areas : List (List ℕ × ℕ)) (guest : Node) (plan : GuestPlan) → faults_of areas guest ≡ [] → IsPlan areas guest plan → KeepsRules areas plan
keeps areas guest plan none is =
    let own = no_parts (own_faults guest) _ none in
    let vcpus = no_parts (vcpu_faults guest) _ own.1 in
    let regions = no_parts (region_faults areas guest) _ vcpus.1 in
    let links = no_parts (link_faults guest) _ regions.1 in
    let windows = no_parts (window_faults areas guest) (alias_faults areas guest) links.1 in
    let sizes = good_counts guest own.0 in
    let vcpus_len : length plan.vcpus.items ≡ length (vcpus_of guest) = ap length is.vcpus ∙ length_map vcpu_plan (vcpus_of guest) in
    let regions_len : length plan.regions.items ≡ length (regions_of guest) = ap length is.regions ∙ (length_map (λ it. region_plan areas (aspace_of guest) (regions_of guest) it.0 it.1) (enumerate_from 0 (regions_of guest)) ∙ length_rows 0 (regions_of guest)) in
    let region_good = λ (k : ℕ) (d : Node) (lt : k < length (regions_of guest)). no_causes (in_regions (name_of guest)) name_of (λ row node. region_causes areas node) 0 (regions_of guest) regions.0 k d lt in
    record {
      some_vcpus = omega (arith, vcpus_len, sizes.0);
      few_vcpus = omega (arith, vcpus_len, sizes.2);
      some_regions = omega (arith, regions_len, sizes.1);
      few_regions = omega (arith, regions_len, sizes.3);
      vcpus =
          All-same IsVcpuPlan plan.vcpus.items (map vcpu_plan (vcpus_of guest)) is.vcpus
          (All-map IsVcpuPlan vcpu_plan (vcpus_of guest) (λ k d lt. good_vcpu (get_or (vcpus_of guest) k d) (no_causes (in_vcpus (name_of guest)) name_of (λ row node. vcpu_causes node) 0 (vcpus_of guest) vcpus.0 k d lt)));
      regions =
          All-same IsRegionPlan plan.regions.items (plans_of areas guest) is.regions
          (All-map IsRegionPlan (λ it. region_plan areas (aspace_of guest) (regions_of guest) it.0 it.1) (enumerate_from 0 (regions_of guest))
          (all_rows (λ it. IsRegionPlan (region_plan areas (aspace_of guest) (regions_of guest) it.0 it.1)) 0 (regions_of guest)
          (λ k d lt. good_region areas (aspace_of guest) (regions_of guest) (0 + k) (get_or (regions_of guest) k d) sizes.3 (region_good k d lt))));
      in_areas =
          All-same (λ region. LiesInArea areas region.size region.form) plan.regions.items (plans_of areas guest) is.regions
          (All-map (λ region. LiesInArea areas region.size region.form) (λ it. region_plan areas (aspace_of guest) (regions_of guest) it.0 it.1) (enumerate_from 0 (regions_of guest))
          (all_rows (λ it. LiesInArea areas (region_plan areas (aspace_of guest) (regions_of guest) it.0 it.1).size (region_plan areas (aspace_of guest) (regions_of guest) it.0 it.1).form) 0 (regions_of guest)
          (λ k d lt. good_area areas (get_or (regions_of guest) k d) (region_good k d lt))));
      apart = subst (AllPairs LieApart) (sym is.regions) (lie_apart (plans_of areas guest) (no_causes (in_regions (name_of guest)) (λ plan. plan.name) (overlap_causes (plans_of areas guest)) 0 (plans_of areas guest) windows.0));
      targets =
          subst (λ (plans : List RegionPlan). All (λ region. HasTarget plans region region.form) plans) (sym is.regions)
          (have_targets (plans_of areas guest) (no_causes (in_regions (name_of guest)) (λ plan. plan.name) (alias_causes (plans_of areas guest)) 0 (plans_of areas guest) windows.1));
    }

-- what is given keeps the rules
pub given_keeps : (areas : List (List ℕ × ℕ)) (guest : Option Node) (result : Result GuestPlan PlanRefusal) → Plans areas guest result → IfOk result (KeepsRules areas)
given_keeps areas None (Ok plan) given = absurd given
given_keeps areas None (Err NoGuest) given = tt
given_keeps areas None (Err (BadNode path cause)) given = absurd given
given_keeps areas None (Err (Memory e)) given = tt
given_keeps areas (Some guest) (Ok plan) given = keeps areas guest plan given.0 given.1
given_keeps areas (Some guest) (Err NoGuest) given = absurd given
given_keeps areas (Some guest) (Err (BadNode path cause)) given = tt
given_keeps areas (Some guest) (Err (Memory e)) given = tt
