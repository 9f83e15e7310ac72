-- A proper step is in order.
use Rattle.std.proofs.Common.{◌≡◌, ℕ, suc, ◌<◌, ◌≤◌, false, refl, sym, ap, subst, ◌∙◌, List, length, arith, Option, None, Some, Result, Ok, Err, option_map, is_some, slice_get}
use Rattle.std.specs.List.{AllByRecursion}
use Rattle.std.specs.Prelude.{IfSome}
use Rattle.std.specs.Str.{bytes_eq}
use Rattle.std.proofs.lemmas.Option.{get_or_from_slice_get, same_Some, slice_get_within}
use Rattle.hv_dir.proofs.Places.{position_within}
use Rattle.hv_dir.specs.Directory.{DirState, guest_at}
use Rattle.hv_dir.specs.declared.refusal.DirRefusal.{DirRefusal}
use Rattle.hv_dir.specs.declared.entry.Entry.{Entry}
use Rattle.hv_kinds.specs.declared.stage.Stage.{Stage}
use Rattle.hv_kinds.specs.declared.state.State.{State as VcpuState}
use Rattle.hv_kinds.specs.declared.state.State.TheVariants.{Unknown, Reset, Ready, Running, Paused, Halted}
use Rattle.hv_model.specs.Plans.{Planned, good, is_named, plan_of, planned, region_at, region_of, regions_in, regions_of, row_of, vcpus_of}
use Rattle.hv_plan.specs.Rules.{IsGood, KeepsRules}
use Rattle.hv_region.specs.Plans.{IsRegionPlan}
use Rattle.hv_region.specs.declared.plan.GuestPlan.{GuestPlan}
use Rattle.hv_region.specs.declared.plan.RegionPlan.{RegionPlan}
use Rattle.hv_rules.specs.Carry.{Carry}
use Rattle.hv_step.specs.declared.step.Step.{Step}
use Rattle.hv_step.specs.declared.step.Step.TheVariants as step
use Rattle.hv_text.specs.declared.limits.TheConstants.{GUEST_REGIONS}
use Rattle.hv_vcpu.specs.Vcpu.{VcpuValue, birth_of, unless_unknown}
use Rattle.hv_window_laws.specs.Guests.{Guests, IsInOrder, IsRegion, LeavesNoWindow}
use Rattle.hv_order_laws.specs.Orders.{IsVcpuInOrder, LeavesNoVcpu}
use Rattle.hv_order_laws.specs.Owners.{Scene}
use Rattle.hv_order_laws.proofs.Steps.{IsProper, LeavesNothing}
use Rattle.hv_order_laws.proofs.Windows.{found-one}

-- a good plan is good

plan-in : (areas : List (List ℕ × ℕ)) (found : Option Planned) (plan : GuestPlan) → good found ≡ Some plan → ((p : Planned) → found ≡ Some p → IsGood areas p) → KeepsRules areas plan
plan-in areas None plan is all = absurd (let never : None ≡ Some plan = is in cc)
plan-in areas (Some (Err fault)) plan is all = absurd (let never : None ≡ Some plan = is in cc)
plan-in areas (Some (Ok p)) plan is all = subst (KeepsRules areas) (same_Some p plan is) (all (Ok p) refl)

pub good-plan : (areas : List (List ℕ × ℕ)) (plans : List Planned) → AllByRecursion (IsGood areas) plans → (name : List ℕ) (plan : GuestPlan) → plan_of plans name ≡ Some plan → KeepsRules areas plan
good-plan areas plans all name plan is = plan-in areas (planned plans name) plan is (λ p found. (found-one (IsGood areas) (is_named name) plans p all found).0)

module _ (areas : List (List ℕ × ℕ)) (plans : List Planned) (all : AllByRecursion (IsGood areas) plans) where
  -- rows and regions of a good plan

  few-regions : (name : List ℕ) (o : Option GuestPlan) → plan_of plans name ≡ o → length (regions_in o) ≤ GUEST_REGIONS
  few-regions name None is = omega arith
  few-regions name (Some plan) is = (good-plan areas plans all name plan is).few_regions

  region-good : (name : List ℕ) (o : Option GuestPlan) → plan_of plans name ≡ o → (k : ℕ) (region : RegionPlan) → slice_get (regions_in o) k ≡ Some region → IsRegionPlan region
  region-good name None is k region at = absurd (let never : None ≡ Some region = at in cc)
  region-good name (Some plan) is k region at =
      let within = slice_get_within plan.regions.items k region at in
      subst IsRegionPlan (get_or_from_slice_get plan.regions.items k region region at) ((good-plan areas plans all name plan is).regions k region within)

  row-good : (name region : List ℕ) (o : Option ℕ) → row_of plans name region ≡ o → IfSome o (λ number. number < GUEST_REGIONS)
  row-good name region None is = tt
  row-good name region (Some k) is =
      let within = position_within (λ (x : RegionPlan). bytes_eq x.name region) (regions_of plans name) k is in
      let few = few-regions name (plan_of plans name) refl in omega (arith, within, few)

  at-row : (name : List ℕ) (row : Option ℕ) → IfSome (region_at plans name row) (λ region. IsRegionPlan region)
  at-row name None = tt
  at-row name (Some k) = by-found (slice_get (regions_of plans name) k) refl
    where
      by-found : (o : Option RegionPlan) → slice_get (regions_of plans name) k ≡ o → IfSome o (λ region. IsRegionPlan region)
      by-found None at = tt
      by-found (Some region) at = region-good name (plan_of plans name) refl k region at

  abbrev counted : ℕ → RegionPlan → RegionPlan × ℕ
  counted count region = (region, count)

  with-count : (count : ℕ) (o : Option RegionPlan) → IfSome o (λ region. IsRegionPlan region) → IfSome (option_map (counted count) o) (λ planned. IsRegionPlan planned.0)
  with-count count None is = tt
  with-count count (Some region) is = is

  region-is : (name region : List ℕ) (c : Carry) → c.row ≡ row_of plans name region → c.plan ≡ region_of plans name region → IsRegion c.row c.plan
  region-is name region c by-row by-plan = record {
    is_row = subst (λ (o : Option ℕ). IfSome o (λ number. number < GUEST_REGIONS)) (sym by-row) (row-good name region (row_of plans name region) refl);
    is_plan =
        subst (λ (o : Option (RegionPlan × ℕ)). IfSome o (λ planned. IsRegionPlan planned.0)) (sym by-plan)
        (with-count (length (vcpus_of plans name)) (region_at plans name (row_of plans name region)) (at-row name (row_of plans name region)));
  }

  -- windows

  leaves-windows : (guests : Guests) (scene : Scene) → ((slot : ℕ) → scene.windows slot ≡ (guests.spaces slot).windows) → (guest : Result (ℕ × ℕ) DirRefusal) (to : Option Stage)
      → LeavesNothing scene guest to → LeavesNoWindow guests guest to
  leaves-windows guests scene same (Ok guest) None leaves = sym (same guest.0) ∙ leaves.0
  leaves-windows guests scene same (Ok guest) (Some stage) leaves = tt
  leaves-windows guests scene same (Err why) None leaves = tt
  leaves-windows guests scene same (Err why) (Some stage) leaves = tt

  pub proper-order : (guests : Guests) (scene : Scene) (s : Step) (c : Carry) → scene.dir ≡ guests.dir → ((slot : ℕ) → scene.windows slot ≡ (guests.spaces slot).windows)
      → IsProper plans scene s c → IsInOrder guests s c
  proper-order guests scene (step.Add x) c dir same proper = region-is x.name x.region c proper.0 proper.1
  proper-order guests scene (step.Stage x) c dir same proper =
      subst (λ (d : DirState). LeavesNoWindow guests (guest_at d x.name x.from) x.to) dir (leaves-windows guests scene same (guest_at scene.dir x.name x.from) x.to proper)
  proper-order guests scene _ c dir same proper = tt

-- VCPUs

state-unknown : (s : VcpuState) (birth : ℕ) → is_some (unless_unknown s birth) ≡ false → s ≡ Unknown
state-unknown Unknown birth is = refl
state-unknown Reset birth is = absurd (cc is)
state-unknown Ready birth is = absurd (cc is)
state-unknown (Running hart) birth is = absurd (cc is)
state-unknown (Paused waits) birth is = absurd (cc is)
state-unknown Halted birth is = absurd (cc is)

leaves-vcpus : (vcpus : ℕ → VcpuValue) (scene : Scene) → ((v : ℕ) → scene.is_there v ≡ is_some (birth_of (vcpus (suc v)))) → (guest : Result (ℕ × ℕ) DirRefusal) (to : Option Stage)
    → LeavesNothing scene guest to → LeavesNoVcpu vcpus guest to
leaves-vcpus vcpus scene same (Ok guest) None leaves = λ v here. state-unknown (vcpus (suc v)).state (vcpus (suc v)).birth (sym (same v) ∙ leaves.1 v here)
leaves-vcpus vcpus scene same (Ok guest) (Some stage) leaves = tt
leaves-vcpus vcpus scene same (Err why) None leaves = tt
leaves-vcpus vcpus scene same (Err why) (Some stage) leaves = tt

pub proper-vcpus : (plans : List Planned) (vcpus : ℕ → VcpuValue) (scene : Scene) (s : Step) (c : Carry) → ((v : ℕ) → scene.is_there v ≡ is_some (birth_of (vcpus (suc v))))
    → IsProper plans scene s c → IsVcpuInOrder scene.dir vcpus s
proper-vcpus plans vcpus scene (step.Vadd x) c same proper = ap (option_map (λ (e : Entry). e.birth)) proper.at ∙ ap (λ (n : ℕ). Some n) proper.born
proper-vcpus plans vcpus scene (step.Stage x) c same proper = leaves-vcpus vcpus scene same (guest_at scene.dir x.name x.from) x.to proper
proper-vcpus plans vcpus scene _ c same proper = tt
