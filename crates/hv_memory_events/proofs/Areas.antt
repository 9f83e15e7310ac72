-- Windows that are found lead to rows, and areas that are shown are there.
use Rattle.std.proofs.Common.{◌≡◌, ◌<◌, ◌≤◌, ◌+◌, ℕ, List, Bool, true, false, nat_le, Option, None, Some, refl, subst, arith}
use Rattle.std.proofs.lemmas.Bool.{leb-true}
use Rattle.std.specs.Prelude.{if◌then◌else◌}
use Rattle.hv_board.specs.declared.board.Board.{Board}
use Rattle.hv_board_steps.proofs.Found.{found}
use Rattle.hv_board_steps.specs.Sound.{HasArea, LeadToRows}
use Rattle.hv_body.specs.Body.{seen}
use Rattle.hv_body.specs.Contents.{map_device}
use Rattle.hv_body.specs.Rules.{HasForm, IsBody}
use Rattle.hv_body.specs.Windows.{offset_in}
use Rattle.hv_body.specs.declared.contents.Contents.{Contents}
use Rattle.hv_body.specs.declared.contents.Contents.TheVariants.{Writable, ReadOnly, Emulated, Shared}
use Rattle.hv_body.specs.declared.live.Live.{Live}
use Rattle.hv_emu.specs.Device.{DevState}
use Rattle.hv_kinds.specs.declared.address.AddressType.{AddressType}
use Rattle.hv_memory_steps.specs.Ranges.{shown_range}
use Rattle.hv_region.specs.declared.plan.RegionPlan.{RegionPlan}
use Rattle.hv_region.specs.declared.window.Window.{Window}
use Rattle.hv_rules.specs.Body.{no_memory, range_in, shared_in}
use Rattle.hv_rules.specs.Windows.{has_range, window_at}
use Rattle.hv_text.specs.declared.limits.TheConstants.{GUEST_REGIONS}
use Rattle.hv_memory_events.specs.Reached.{HasBytesOn, IsArea, LeadsToRow}

leads : (windows : List Window) (kind : AddressType) (address size : ℕ) (there : Option Window) → LeadToRows windows → window_at windows kind address size ≡ there → LeadsToRow there
leads windows kind address size None lead is = tt
leads windows kind address size (Some window) lead is =
    (found (λ w. w.target < GUEST_REGIONS) (has_range kind address size) windows window lead is).0

-- A window that holds a range leads to a row.
pub window-leads : (windows : List Window) (kind : AddressType) (address size : ℕ) → LeadToRows windows → LeadsToRow (window_at windows kind address size)
window-leads windows kind address size lead = leads windows kind address size (window_at windows kind address size) lead refl

-- An area is there, with so many bytes from an offset on.
pub record IsThere {E : Type 0} (board : Board E) (size : ℕ) (place : Option (ℕ × ℕ)) : Type 0 where
  pub area : IsArea board place
  pub bytes : HasBytesOn board (Some size) place

module _ {E : Type 0} (state : E → DevState) (board : Board E) where
  contents-there : (contents : Contents E) (plan : RegionPlan) (offset size : ℕ) → offset + size ≤ plan.size → HasForm plan contents → HasArea board plan.size plan.form
      → IsThere board size (shared_in (range_in (map_device state contents) offset size))
  contents-there (Writable bytes) plan offset size within has area = record { area = tt; bytes = tt }
  contents-there (ReadOnly bytes) plan offset size within has area = record { area = tt; bytes = tt }
  contents-there (Emulated device) plan offset size within has area = record { area = tt; bytes = tt }
  contents-there (Shared number start) plan offset size within has area =
      let there = subst (HasArea board plan.size) has.0 area in
      record { area = there.0; bytes = omega (arith, within, there.1) }

  range-there : (contents : Contents E) (plan : RegionPlan) (offset size : ℕ) (b : Bool) → nat_le (offset + size) plan.size ≡ b → HasForm plan contents → HasArea board plan.size plan.form
      → IsThere board size (shared_in (if b then range_in (map_device state contents) offset size else no_memory))
  range-there contents plan offset size true within has area = contents-there contents plan offset size (leb-true (offset + size) plan.size within) has area
  range-there contents plan offset size false within has area = record { area = tt; bytes = tt }

  -- The area that a window shows of a body is there.
  pub shown-there : (body : Option (Live E)) (window : Window) (address size : ℕ) → IsBody body
      → ((live : Live E) → body ≡ Some live → HasArea board live.plan.size live.plan.form)
      → IsThere board size (shared_in (shown_range (seen state body) window address size))
  shown-there None window address size is area = record { area = tt; bytes = tt }
  shown-there (Some live) window address size is area =
      range-there live.contents live.plan (offset_in window address) size (nat_le (offset_in window address + size) live.plan.size) refl is.form (area live refl)
