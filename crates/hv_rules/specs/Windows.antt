-- Ranges of a guest's addresses, the windows that hold them, and the windows of regions that are added.
use Rattle.std.specs.Prelude.{ℕ, ◌+◌, ◌-◌, nat_lt, nat_le, Bool, ◌&&◌, if◌then◌else◌, List, find, Option, None, Some}
use Rattle.std.specs.Bool.{then_some}
use Rattle.hv_body.specs.Body.{own_window}
use Rattle.hv_body.specs.Windows.{is_type}
use Rattle.hv_kinds.specs.declared.address.AddressType.{AddressType}
use Rattle.hv_kinds.specs.declared.address.AddressType.TheVariants.{Memory, Io}
use Rattle.hv_kinds.specs.declared.generation.Generation.{Generation}
use Rattle.hv_region.specs.Addresses.{end_of}
use Rattle.hv_region.specs.declared.plan.RegionPlan.{RegionPlan}
use Rattle.hv_region.specs.declared.window.Window.{Window}

-- What an instruction's address means, of memory first and of I/O behind it, or nothing where it lies behind both.
abbrev pub guest_place : (address : ℕ) → Option (AddressType × ℕ)
guest_place address =
    if nat_lt address (end_of Memory) then Some (Memory, address)
    else then_some (nat_lt (address - end_of Memory) (end_of Io)) (Io, address - end_of Memory)

-- A window has all of a range that isn't empty.
abbrev pub has_range : AddressType → (address size : ℕ) → Window → Bool
has_range kind address size window =
    nat_le 1 size && is_type window.kind kind
    && nat_le window.base address && nat_le (address + size) (window.base + window.size)

-- The window that holds a whole range.
abbrev pub window_at : List Window → AddressType → (address size : ℕ) → Option Window
window_at windows kind address size = find (has_range kind address size) windows

-- A region that is added: whose it is, its row and its plan, and how many VCPUs its guest has.
pub record Region : Type 0 where
  pub birth : ℕ
  pub row : ℕ
  pub plan : RegionPlan
  pub vcpus : ℕ

-- The region of an `add`, of the generation that the step shows, with the row and the plan that are handed over.
abbrev pub region_of : Option Generation → (row : Option ℕ) → (plan : Option (RegionPlan × ℕ)) → Option Region
region_of (Some guest) (Some row) (Some plan) =
    Some (record { birth = guest.birth; row = row; plan = plan.0; vcpus = plan.1 })
region_of guest row plan = None

-- The window of a region: an alias's leads to its target, from an offset there on.
abbrev pub window_of : Region → (target : Option (ℕ × ℕ)) → Window
window_of region None = own_window region.birth region.row region.plan
window_of region (Some target) =
    record (own_window region.birth region.row region.plan) { target = target.0; offset = target.1 }
