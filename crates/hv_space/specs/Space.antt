-- The address space of a guest.
use Rattle.std.specs.Prelude.{ℕ, List, [], Option, None}
use Rattle.hv_region.specs.declared.window.Window.{Window}

-- A space has windows, and while the guest's clock is live, the index of the clock's region and the guest's birth.
pub record SpaceState : Type 0 where
  pub windows : List Window
  pub clock : Option (ℕ × ℕ)

-- At first no region has a window, and no clock is live.
abbrev pub no_windows : SpaceState
no_windows = record { windows = []; clock = None }

-- The windows change, and the clock stays.
abbrev pub with_windows : SpaceState → List Window → SpaceState
with_windows space windows = record space { windows = windows }

-- The clock changes, and the windows stay.
abbrev pub with_clock : SpaceState → Option (ℕ × ℕ) → SpaceState
with_clock space clock = record space { clock = clock }
