-- The windows of planned regions.
use Rattle.std.specs.Prelude.{ℕ, ◌+◌, Bool, true, false, ◌&&◌, not, List, take, nat_lt, nat_le}
use Rattle.std.specs.List.{list_any}
use Rattle.hv_kinds.specs.declared.address.AddressType.{AddressType}
use Rattle.hv_kinds.specs.declared.address.AddressType.TheVariants.{Memory, Io}
use Rattle.hv_region.specs.declared.plan.Form.{Form}
use Rattle.hv_region.specs.declared.plan.Form.TheVariants.{Alias}
use Rattle.hv_region.specs.declared.plan.RegionPlan.{RegionPlan}
use Rattle.hv_plan.specs.Vcpus.{when}
use Rattle.hv_kinds.specs.declared.cause.Cause.{Cause}
use Rattle.hv_kinds.specs.declared.cause.Cause.TheVariants.{Overlap, AliasTarget}

abbrev pub is_same_type : AddressType → AddressType → Bool
is_same_type Memory Memory = true
is_same_type Io Io = true
is_same_type _ _ = false

-- some address of one type lies in both regions
abbrev pub meets : RegionPlan → RegionPlan → Bool
meets one other = is_same_type one.kind other.kind && nat_lt one.base (other.base + other.size) && nat_lt other.base (one.base + one.size)

-- the region has the whole range
abbrev pub holds : RegionPlan → AddressType → ℕ → ℕ → Bool
holds region kind base size = is_same_type region.kind kind && nat_le region.base base && nat_le (base + size) (region.base + region.size)

-- an earlier region that is to be built has an address of this one
abbrev pub blocks : RegionPlan → RegionPlan → Bool
blocks region earlier = not earlier.detached && meets earlier region

-- what is wrong with a region that is to be built where an earlier one stands
abbrev pub overlap_causes : List RegionPlan → ℕ → RegionPlan → List Cause
overlap_causes regions row region = when (not region.detached && list_any (blocks region) (take row regions)) Overlap

abbrev pub is_alias : Form → Bool
is_alias (Alias base) = true
is_alias _ = false

-- a region that is to be built and is no alias has the whole range that an alias stands for
abbrev pub has_range : RegionPlan → ℕ → RegionPlan → Bool
has_range region base other = not other.detached && not (is_alias other.form) && holds other region.kind base region.size

-- an alias whose range no such region has
abbrev pub lacks_target : List RegionPlan → RegionPlan → Form → Bool
lacks_target regions region (Alias base) = not (list_any (has_range region base) regions)
lacks_target regions region _ = false

-- what is wrong with an alias that is to be built
abbrev pub alias_causes : List RegionPlan → ℕ → RegionPlan → List Cause
alias_causes regions row region = when (not region.detached && lacks_target regions region region.form) AliasTarget
