-- The law of windows: those of a guest's address space and those of its regions are the same.
use Rattle.std.specs.Prelude.{◌≡◌, ℕ, ◌≤◌, ◌==◌, Bool, true, ◌&&◌, List, [], filter, find, All, Option, None, Some, is_some, option_map, option_and_then}
use Rattle.std.specs.Bool.{then_some}
use Rattle.hv_body.specs.Body.{own_window}
use Rattle.hv_body.specs.Windows.{holds}
use Rattle.hv_body.specs.declared.live.Live.{Live}
use Rattle.hv_body.specs.declared.place.Place.{Place}
use Rattle.hv_dir.specs.Directory.{DirState, entry_at}
use Rattle.hv_emu.specs.Device.{DevState}
use Rattle.hv_region.specs.Windows.{AreWindows}
use Rattle.hv_region.specs.declared.window.Window.{Window}
use Rattle.hv_rules.specs.Body.{BodyValue}
use Rattle.hv_rules.specs.Space.{is_of}
use Rattle.hv_rules.specs.Windows.{window_at}
use Rattle.hv_window_laws.specs.Guests.{Guests}
use Rattle.hv_window_laws.specs.Run.{IsReached}

-- The windows that reach a region's contents.
abbrev pub windows_of : BodyValue → List Window
windows_of None = []
windows_of (Some live) = live.windows

-- A window leads to a row.
abbrev pub leads_to : (row : ℕ) → Window → Bool
leads_to row window = window.target == row

-- A window is the own one of the region in a row.
abbrev pub is_own_of : (row : ℕ) → Window → Bool
is_own_of row window = is_of row window && leads_to row window

-- The own window of a live region in a row: it has the birth and the plan of the contents.
abbrev pub own_of : (row : ℕ) → Live DevState → Window
own_of row live = own_window live.birth row live.plan

-- The birth of the guest that has a slot.
abbrev pub birth_in : DirState → (slot : ℕ) → Option ℕ
birth_in dir slot = option_map (λ guest. guest.birth) (entry_at dir slot)

-- The windows of a guest's space are in order, of regions of their own, and none meets another. Those that lead to a row
-- are the windows of the contents there, in the same order. A region is live exactly where it has its own window, whose
-- birth and range are those of the contents. Each window leads to a live region. And each window has the birth of the
-- guest that the directory has there.
pub record WindowsMatch (guests : Guests) (slot : ℕ) : Type 0 where
  pub order : AreWindows (guests.spaces slot).windows
  pub reached : (row : ℕ)
      → windows_of (guests.bodies slot row) ≡ filter (leads_to row) (guests.spaces slot).windows
  pub live : (row : ℕ)
      → find (is_own_of row) (guests.spaces slot).windows ≡ option_map (own_of row) (guests.bodies slot row)
  pub targets : All (λ window. is_some (guests.bodies slot window.target) ≡ true) (guests.spaces slot).windows
  pub births : All (λ window. birth_in guests.dir slot ≡ Some window.birth) (guests.spaces slot).windows

abbrev pub WindowsMatchRegions : Type 0
WindowsMatchRegions =
    (count : ℕ) (guests : Guests) → IsReached count guests → (slot : ℕ) → WindowsMatch guests slot

-- A window, where it leads to a row.
abbrev pub if_leads : (row : ℕ) → Option Window → Option Window
if_leads row found = option_and_then (λ window. then_some (leads_to row window) window) found

-- The window of a region's contents that holds an access is the one of the guest's space that holds it, where that leads
-- to the region. So an access reaches one region at most.
abbrev pub AccessesReachOneRegion : Type 0
AccessesReachOneRegion =
    (count : ℕ) (guests : Guests) → IsReached count guests → (slot row : ℕ) (place : Place) → 1 ≤ place.size
    → find (holds place) (windows_of (guests.bodies slot row))
    ≡ if_leads row (find (holds place) (guests.spaces slot).windows)

-- An access of the guest that has the slot is held by the window that has its range.
abbrev pub AccessesAreHeldByRange : Type 0
AccessesAreHeldByRange =
    (count : ℕ) (guests : Guests) → IsReached count guests → (slot : ℕ) (place : Place) → 1 ≤ place.size
    → birth_in guests.dir slot ≡ Some place.birth
    → find (holds place) (guests.spaces slot).windows
    ≡ window_at (guests.spaces slot).windows place.kind place.addr place.size
