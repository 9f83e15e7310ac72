-- The plans of good guests, and the regions in their rows.
use Rattle.std.proofs.Common.{◌≡◌, ℕ, zero, suc, ◌+◌, ◌<◌, ◌≤◌, refl, sym, ap, subst, ◌∙◌, List, [], ◌∷◌, length, arith, Option, None, Some, Ok, Err, option_map, slice_get, replicate}
use Rattle.std.proofs.lemmas.List.{length-replicate}
use Rattle.std.specs.List.{All, AllByRecursion}
use Rattle.std.proofs.lemmas.List.Elements.{All-nil}
use Rattle.std.specs.Option.{option_map_or}
use Rattle.std.proofs.lemmas.Option.{get_or_from_slice_get, same_Some, slice_get_within}
use Rattle.hv_body.specs.Rules.{FitsArea}
use Rattle.hv_guest_steps.specs.Additions.{CanBe, region_at}
use Rattle.hv_kinds.specs.declared.generation.Generation.{Generation}
use Rattle.hv_model.specs.Legal.{area_at_start}
use Rattle.hv_model.specs.Origin.{Origin}
use Rattle.hv_model.specs.Plans.{Planned, good, is_named, plan_of, planned, region_of, regions_in, regions_of, row_of, vcpus_in, vcpus_of}
use Rattle.hv_model.specs.Plans as model
use Rattle.hv_plan.specs.Rules.{HasBytes, IsAreaSize, KeepsRules, LiesInArea}
use Rattle.hv_programs.specs.Owed.{IsParent}
use Rattle.hv_region.specs.Plans.{IsRegionPlan, IsVcpuPlan}
use Rattle.hv_region.specs.declared.fault.Fault.{Fault}
use Rattle.hv_region.specs.declared.plan.Form.{Form}
use Rattle.hv_region.specs.declared.plan.Form.TheVariants.{Ram, Rom, Device, Real, Alias}
use Rattle.hv_region.specs.declared.plan.GuestPlan.{GuestPlan}
use Rattle.hv_region.specs.declared.plan.RegionPlan.{RegionPlan}
use Rattle.hv_terminals.specs.Plans.{AreSized, IsSized}
use Rattle.hv_terminals.specs.Terminal.{HasGoodRegions, HaveOtherParents}
use Rattle.hv_text.specs.declared.limits.TheConstants.{GUEST_REGIONS, MOST_MEMORY}
use Rattle.hv_order_laws.specs.Orders.{ArePlansGood}
use Rattle.hv_order_laws.proofs.Windows.{found-one}
use Rattle.hv_bound_laws.specs.Bounds.{IsPlanAt}
use Rattle.hv_bound_laws.specs.Openings.{AreGood, IsGuestGood, IsOpeningGood, IsPlanGood}
use Rattle.hv_bound_laws.specs.Regions.{GoodRegionsCanBe, RegionsCanBe}

-- plans that are good keep the rules, as the laws of order ask

rules-each : (areas : List (List ℕ × ℕ)) (Good : Planned → Type 0) → ((plan : GuestPlan) → KeepsRules areas plan → Good (Ok plan)) → ((fault : Fault) → Good (Err fault))
    → (plans : List Planned) → AllByRecursion (IsGuestGood areas) plans → AllByRecursion Good plans
rules-each areas Good ok err [] all = tt
rules-each areas Good ok err (Ok plan ∷ plans) all = (ok plan all.0.rules, rules-each areas Good ok err plans all.1)
rules-each areas Good ok err (Err fault ∷ plans) all = (err fault, rules-each areas Good ok err plans all.1)

pub plans-good : (O : Origin) → IsOpeningGood O → ArePlansGood O
plans-good O good = rules-each O.opening.areas _ (λ plan keeps. keeps) (λ fault. tt) O.opening.plans good.guests

-- a region of a plan is one of its rows

parent-in : (from : ℕ) (regions : List RegionPlan) (k : ℕ) (region : RegionPlan) → HaveOtherParents from regions → slice_get regions k ≡ Some region
    → IsParent (from + k) region.parent
parent-in from [] k region others at = absurd (cc at)
parent-in from (x ∷ regions) zero region others at =
    let here : from ≡ from + 0 = omega arith in
    subst (λ (n : ℕ). IsParent n region.parent) here (subst (λ (r : RegionPlan). IsParent from r.parent) (same_Some x region at) others.0)
parent-in from (x ∷ regions) (suc k) region others at =
    let there : from + 1 + k ≡ from + suc k = omega arith in
    subst (λ (n : ℕ). IsParent n region.parent) there (parent-in (from + 1) regions k region others.1 at)

-- a part of an area fits in as many bytes as it has at the start

abbrev zeros-in : Option (List ℕ × ℕ) → List ℕ
zeros-in found = option_map_or (λ (size : ℕ). replicate size 0) (option_map (λ (named : List ℕ × ℕ). named.1) found) []

pub start-long : (O : Origin) (area end : ℕ) → HasBytes end (slice_get O.opening.areas area) → end ≤ length (area_at_start O area)
start-long O area end has = by (slice_get O.opening.areas area) has
  where
    by : (found : Option (List ℕ × ℕ)) → HasBytes end found → end ≤ length (zeros-in found)
    by None has = absurd has
    by (Some named) has = omega (arith, has, length-replicate {A = ℕ} named.1 0)

area-within : (areas : List (List ℕ × ℕ)) (area end : ℕ) → HasBytes end (slice_get areas area) → area < length areas
area-within areas area end has = by (slice_get areas area) refl has
  where
    by : (found : Option (List ℕ × ℕ)) → slice_get areas area ≡ found → HasBytes end found → area < length areas
    by None at has = absurd has
    by (Some named) at has = slice_get_within areas area named at

-- where a region lies in its area

pub lies-within : (areas : List (List ℕ × ℕ)) (size area offset : ℕ) → LiesInArea areas size (Real area offset) → area < length areas
lies-within areas size area offset lies = area-within areas area (offset + size) lies

module _ (harts : ℕ) (areas : List (List ℕ × ℕ)) (plans : List Planned) (all : AreGood harts areas plans) where
  plan-in : (found : Option Planned) (plan : GuestPlan) → good found ≡ Some plan → ((p : Planned) → found ≡ Some p → IsGuestGood areas p) → IsPlanGood areas plan
  plan-in None plan is each = absurd (let never : None ≡ Some plan = is in cc)
  plan-in (Some (Err fault)) plan is each = absurd (let never : None ≡ Some plan = is in cc)
  plan-in (Some (Ok p)) plan is each = subst (IsPlanGood areas) (same_Some p plan is) (each (Ok p) refl)

  pub plan-good : (name : List ℕ) (plan : GuestPlan) → plan_of plans name ≡ Some plan → IsPlanGood areas plan
  plan-good name plan is = plan-in (planned plans name) plan is (λ p found. (found-one (IsGuestGood areas) (is_named name) plans p all.guests found).0)

  -- a region in a row, with the plan of its guest
  pub record IsPlaced (name : List ℕ) (row : ℕ) (region : RegionPlan) : Type 0 where
    pub plan : GuestPlan
    pub of : plan_of plans name ≡ Some plan
    pub at : slice_get plan.regions.items row ≡ Some region

  placed-in : (name : List ℕ) (row : ℕ) (region : RegionPlan) (found : Option GuestPlan) → plan_of plans name ≡ found → slice_get (regions_in found) row ≡ Some region → IsPlaced name row region
  placed-in name row region None of at = absurd (let never : None ≡ Some region = at in cc)
  placed-in name row region (Some plan) of at = record { plan = plan; of = of; at = at }

  pub placed : (name : List ℕ) (row : ℕ) (region : RegionPlan) → slice_get (regions_of plans name) row ≡ Some region → IsPlaced name row region
  placed name row region at = placed-in name row region (plan_of plans name) refl at

  -- what is known of such a region
  pub record IsRegionGood (row : ℕ) (region : RegionPlan) : Type 0 where
    pub row_is : row < GUEST_REGIONS
    pub plan_is : IsRegionPlan region
    pub lies : LiesInArea areas region.size region.form
    pub parent : IsParent row region.parent

  good-in : (name : List ℕ) (row : ℕ) (region : RegionPlan) → IsPlaced name row region → IsRegionGood row region
  good-in name row region p =
      let it = plan-good name p.plan p.of in
      let items = p.plan.regions.items in
      let within : row < length items = slice_get_within items row region p.at in
      let same = get_or_from_slice_get items row region region p.at in
      record {
        row_is = let few = it.rules.few_regions in omega (arith, within, few);
        plan_is = subst IsRegionPlan same (it.rules.regions row region within);
        lies = subst (λ (r : RegionPlan). LiesInArea areas r.size r.form) same (it.rules.in_areas row region within);
        parent = let here : 0 + row ≡ row = omega arith in subst (λ (n : ℕ). IsParent n region.parent) here (parent-in 0 items row region it.parents p.at);
      }

  pub region-good : (row : ℕ) (region : RegionPlan) → IsPlanAt plans row region → IsRegionGood row region
  region-good row region is = good-in is.guest row region (placed is.guest row region is.at)

  -- a region that a step names

  abbrev with-count : ℕ → RegionPlan → RegionPlan × ℕ
  with-count count region = (region, count)

  counted : (count : ℕ) (found : Option RegionPlan) (plan : RegionPlan) (vcpus : ℕ) → option_map (with-count count) found ≡ Some (plan, vcpus) → (found ≡ Some plan) × (count ≡ vcpus)
  counted count None plan vcpus is = absurd (cc is)
  counted count (Some region) plan vcpus is =
      let same : (region, count) ≡ (plan, vcpus) = same_Some (region, count) (plan, vcpus) is in
      (ap (λ (x : RegionPlan × ℕ). Some x.0) same, ap (λ (x : RegionPlan × ℕ). x.1) same)

  pub record IsNamed (guest : List ℕ) (row : ℕ) (plan : RegionPlan) (vcpus : ℕ) : Type 0 where
    pub at : slice_get (regions_of plans guest) row ≡ Some plan
    pub count : length (vcpus_of plans guest) ≡ vcpus

  pub named-at : (guest region : List ℕ) (row vcpus : ℕ) (plan : RegionPlan) → row_of plans guest region ≡ Some row → region_of plans guest region ≡ Some (plan, vcpus) → IsNamed guest row plan vcpus
  named-at guest region row vcpus plan by-row by-plan =
      let both = counted (length (vcpus_of plans guest)) (model.region_at plans guest (row_of plans guest region)) plan vcpus by-plan in
      record { at = sym (ap (model.region_at plans guest) by-row) ∙ both.0; count = both.1 }

  -- a part of an area ends within the most bytes of one
  area-fits : (size : ℕ) (form : Form) → LiesInArea areas size form → FitsArea size form
  area-fits size Ram lies = tt
  area-fits size Rom lies = tt
  area-fits size (Device names) lies = tt
  area-fits size (Alias address) lies = tt
  area-fits size (Real area offset) lies = by (slice_get areas area) refl lies
    where
      by : (found : Option (List ℕ × ℕ)) → slice_get areas area ≡ found → HasBytes (offset + size) found → offset + size ≤ MOST_MEMORY
      by None at has = absurd has
      by (Some named) at has =
          let within = slice_get_within areas area named at in
          let size-is : IsAreaSize named.1 = subst (λ (a : List ℕ × ℕ). IsAreaSize a.1) (get_or_from_slice_get areas area named named at) (all.sizes area named within) in
          let most = size-is.most in
          omega (arith, has, most)

  vcpus-in : (name : List ℕ) (found : Option GuestPlan) (plan : GuestPlan) → found ≡ Some plan → length (vcpus_in found) ≡ length plan.vcpus.items
  vcpus-in name found plan is = ap (λ (o : Option GuestPlan). length (vcpus_in o)) is

  pub can-be : (guest region : List ℕ) (owner : Generation) (row vcpus : ℕ) (plan : RegionPlan) → row_of plans guest region ≡ Some row → region_of plans guest region ≡ Some (plan, vcpus)
      → CanBe (region_at (record { guest = owner; row = row; vcpus = vcpus }) plan)
  can-be guest region owner row vcpus plan by-row by-plan =
      let named = named-at guest region row vcpus plan by-row by-plan in
      let p = placed guest row plan named.at in
      let it = good-in guest row plan p in
      let rules = (plan-good guest p.plan p.of).rules in
      let some = rules.some_vcpus in
      let few = rules.few_vcpus in
      let count : length p.plan.vcpus.items ≡ vcpus = sym (vcpus-in guest (plan_of plans guest) p.plan p.of) ∙ named.count in
      record {
        row = it.row_is;
        some_vcpus = omega (arith, some, count);
        few_vcpus = omega (arith, few, count);
        by_rules = it.plan_is;
        area = area-fits plan.size plan.form it.lies;
      }

  regions-good : (found : Option GuestPlan) → ((plan : GuestPlan) → found ≡ Some plan → IsPlanGood areas plan) → HasGoodRegions (regions_in found)
  regions-good None each = record { few = omega arith; parents = tt }
  regions-good (Some plan) each = let it = each plan refl in record { few = it.rules.few_regions; parents = it.parents }

  -- the plans keep the rules
  vcpus-good : (found : Option GuestPlan) → ((plan : GuestPlan) → found ≡ Some plan → IsPlanGood areas plan) → All IsVcpuPlan (vcpus_in found)
  vcpus-good None each = All-nil IsVcpuPlan
  vcpus-good (Some plan) each = (each plan refl).rules.vcpus

  sized : AreSized plans
  sized =
      rules-each areas IsSized
      (λ plan keeps. record { some_vcpus = keeps.some_vcpus; few_vcpus = keeps.few_vcpus; few_regions = keeps.few_regions })
      (λ fault. tt) plans all.guests

  pub can : RegionsCanBe plans
  can = record {
    can_be = can-be;
    good = λ name. regions-good (plan_of plans name) (plan-good name);
    rules = record { sized = sized; vcpus = λ name. vcpus-good (plan_of plans name) (plan-good name) };
  }

pub good-regions : GoodRegionsCanBe
good-regions harts areas plans all = can harts areas plans all
