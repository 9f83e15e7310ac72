-- What holds of each plan that is given.
use Rattle.std.specs.Prelude.{◌≡◌, ℕ, ◌+◌, ◌<◌, ◌≤◌, false, List, length, All, slice_get, Option, Some, None, Result, Ok, Err}
use Rattle.std.specs.List.{AllPairs, Any}
use Rattle.hv_text.specs.declared.limits.TheConstants.{GUEST_VCPUS, GUEST_REGIONS, HARTS, MOST_AREAS, MOST_MEMORY}
use Rattle.hv_kinds.specs.declared.address.AddressType.{AddressType}
use Rattle.hv_region.specs.Plans.{IsVcpuPlan, IsRegionPlan}
use Rattle.hv_region.specs.declared.fault.Fault.{Fault}
use Rattle.hv_region.specs.declared.plan.Form.{Form}
use Rattle.hv_region.specs.declared.plan.Form.TheVariants.{Real, Alias}
use Rattle.hv_region.specs.declared.plan.RegionPlan.{RegionPlan}
use Rattle.hv_plan.specs.Windows.{is_alias}
use Rattle.hv_region.specs.declared.plan.GuestPlan.{GuestPlan}
use Rattle.hv_plan.specs.declared.host.Host.{Host}
use Rattle.hv_plan.specs.declared.host.TheConstants.{MOST_GUESTS}

-- an area is there and has so many bytes
abbrev pub HasBytes : ℕ → Option (List ℕ × ℕ) → Type 0
HasBytes end None = ⊥
HasBytes end (Some area) = end ≤ area.1

-- a region that shows an area lies within it
abbrev pub LiesInArea : List (List ℕ × ℕ) → ℕ → Form → Type 0
LiesInArea areas size (Real area offset) = HasBytes (offset + size) (slice_get areas area)
LiesInArea areas size _ = Unit {0}

-- some address of one type lies in both regions
pub record Share (one other : RegionPlan) : Type 0 where
  pub type : one.kind ≡ other.kind
  pub front : one.base < other.base + other.size
  pub back : other.base < one.base + one.size

-- regions that are to be built have no address in common
abbrev pub LieApart : RegionPlan → RegionPlan → Type 0
LieApart one other = one.detached ≡ false → other.detached ≡ false → Share one other → ⊥

-- a region is to be built, is no alias and has a whole range
pub record IsTarget (type : AddressType) (base size : ℕ) (region : RegionPlan) : Type 0 where
  pub built : region.detached ≡ false
  pub own : is_alias region.form ≡ false
  pub kind : region.kind ≡ type
  pub from : region.base ≤ base
  pub to : base + size ≤ region.base + region.size

-- an alias that is to be built stands for a part of such a region
abbrev pub HasTarget : List RegionPlan → RegionPlan → Form → Type 0
HasTarget regions region (Alias base) = region.detached ≡ false → Any (IsTarget region.kind base region.size) regions
HasTarget regions region _ = Unit {0}

-- a guest has VCPUs and regions, no more than allowed, that keep the rules, whose windows lie apart and whose aliases
-- have targets
pub record KeepsRules (areas : List (List ℕ × ℕ)) (plan : GuestPlan) : Type 0 where
  pub some_vcpus : 1 ≤ length plan.vcpus.items
  pub few_vcpus : length plan.vcpus.items ≤ GUEST_VCPUS
  pub some_regions : 1 ≤ length plan.regions.items
  pub few_regions : length plan.regions.items ≤ GUEST_REGIONS
  pub vcpus : All IsVcpuPlan plan.vcpus.items
  pub regions : All IsRegionPlan plan.regions.items
  pub in_areas : All (λ region. LiesInArea areas region.size region.form) plan.regions.items
  pub apart : AllPairs LieApart plan.regions.items
  pub targets : All (λ region. HasTarget plan.regions.items region region.form) plan.regions.items

-- a guest that has a plan has one that keeps the rules
abbrev pub IsGood : List (List ℕ × ℕ) → Result GuestPlan Fault → Type 0
IsGood areas (Ok plan) = KeepsRules areas plan
IsGood areas (Err fault) = Unit {0}

-- an area has bytes, no more than memory may have
pub record IsAreaSize (size : ℕ) : Type 0 where
  pub least : 1 ≤ size
  pub most : size ≤ MOST_MEMORY

-- settings are in range, and there are no more areas and guests than allowed
pub record KeepsHostRules (host : Host) : Type 0 where
  pub least_harts : 1 ≤ host.harts
  pub most_harts : host.harts ≤ HARTS
  pub turns : host.turns ≤ 100000
  pub few_areas : length host.areas.items ≤ MOST_AREAS
  pub sizes : All (λ area. IsAreaSize area.1) host.areas.items
  pub few_guests : length host.guests.items ≤ MOST_GUESTS
