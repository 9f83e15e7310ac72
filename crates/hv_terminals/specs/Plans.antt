-- The guests of the host tree, as code has them.
use Rattle.std.specs.Prelude.{ℕ, ◌≤◌, Option, Ok, Err, List, length}
use Rattle.std.specs.Borrow.{Bor}
use Rattle.std.specs.List.{All, AllByRecursion}
use Rattle.std.specs.Option.{option_map}
use Rattle.hv_region.specs.Plans.{IsVcpuPlan}
use Rattle.hv_region.specs.declared.plan.GuestPlan.{GuestPlan}
use Rattle.hv_region.specs.declared.plan.RegionPlan.{RegionPlan}
use Rattle.hv_refusal.specs.declared.refusal.Refusal.{Refusal}
use Rattle.hv_refusal.specs.declared.refusal.Refusal.TheVariants as refusal
use Rattle.hv_text.specs.declared.limits.TheConstants.{GUEST_VCPUS, GUEST_REGIONS}
use Rattle.hv_model.specs.Plans.{Planned, vcpus_of}
use Rattle.hv_terminals.specs.declared.plans.Unplanned.{Unplanned}
use Rattle.hv_terminals.specs.declared.plans.Unplanned.TheVariants.{NoGuest, Faulty}

-- A guest has a VCPU.
abbrev pub HasVcpu : GuestPlan → Type 0
HasVcpu plan = 1 ≤ length plan.vcpus.items

-- A good plan has a VCPU, and no more VCPUs and regions than a guest can have.
pub record IsSizedPlan (plan : GuestPlan) : Type 0 where
  pub some_vcpus : HasVcpu plan
  pub few_vcpus : length plan.vcpus.items ≤ GUEST_VCPUS
  pub few_regions : length plan.regions.items ≤ GUEST_REGIONS

abbrev pub IsSized : Planned → Type 0
IsSized (Ok plan) = IsSizedPlan plan
IsSized (Err fault) = Unit {0}

abbrev pub AreSized : List Planned → Type 0
AreSized plans = AllByRecursion IsSized plans

-- The plans of guests keep the rules: none has more VCPUs and regions than a guest can have, and each VCPU's plan is a
-- good one.
pub record KeepRules (plans : List Planned) : Type 0 where
  pub sized : AreSized plans
  pub vcpus : (name : List ℕ) → All IsVcpuPlan (vcpus_of plans name)

-- Why no guest is made of a name.
abbrev pub refusal_in : Unplanned → Refusal
refusal_in NoGuest = refusal.NoGuest
refusal_in (Faulty fault) = refusal.BadNode fault.now.path fault.now.cause

-- The plan of a region, with how many VCPUs its guest has.
abbrev pub region_given : Option (Bor RegionPlan × ℕ) → Option (RegionPlan × ℕ)
region_given given = option_map (λ region. (region.0.now, region.1)) given
