-- The bounds of a board in code, which it has where it holds a state that is within bounds.
use Rattle.std.specs.Prelude.{◌≡◌, ◌<◌, ◌≤◌, ◌+◌, ℕ, length, Option, Some}
use Rattle.hv_board.specs.Board.{part_at}
use Rattle.hv_board.specs.Holds.{Holds}
use Rattle.hv_board.specs.declared.board.Board.{Board}
use Rattle.hv_body.specs.declared.live.Live.{Live}
use Rattle.hv_emu.specs.Device.{DevState}
use Rattle.hv_event.specs.declared.event.CellId.TheVariants as component
use Rattle.hv_guest_steps.specs.Regions.{ShowWithin}
use Rattle.hv_machine.specs.Machine.{State}
use Rattle.hv_model.specs.Origin.{Origin}
use Rattle.hv_model.specs.Rules.{machine}
use Rattle.hv_parts.specs.declared.part.Part.{Part}
use Rattle.hv_parts.specs.declared.part.Part.TheVariants as part
use Rattle.hv_programs.specs.Owed.{IsParent}
use Rattle.hv_region.specs.declared.plan.Form.{Form}
use Rattle.hv_region.specs.declared.plan.Form.TheVariants.{Real}
use Rattle.hv_space.specs.Space.{SpaceState}
use Rattle.hv_text.specs.declared.limits.TheConstants.{GUEST_REGIONS, SLOTS}
use Rattle.hv_bound_laws.specs.Bounds.{EndWithin, IsBounded, LeadToRows}

module _ {E : Type 0} where
  -- How many bytes an area has; what is no area has none.
  abbrev pub length_of : Option (Part E) → ℕ
  length_of (Some (part.Area bytes)) = length bytes
  length_of _ = 0

  -- A region that shows a part of an area ends within one that the board has.
  abbrev pub ShowsArea : Board E → (size : ℕ) → Form → Type 0
  ShowsArea board size (Real area offset) =
      (area < board.layout.areas) × (offset + size ≤ length_of (part_at board (component.Area area)))
  ShowsArea board size _ = Unit {0}

  -- A board is within bounds: the windows of each guest show nothing behind memory, lead to rows and end within addresses, and
  -- the live region of a row has the area that it shows, and another region that takes its interrupts, if any does.
  pub record IsBoardBounded (board : Board E) : Type 0 where
    pub spaces :
        (slot : ℕ) (space : SpaceState) → slot < SLOTS
        → part_at board (component.Space slot) ≡ Some (part.Space space) → ShowWithin space.windows
    pub rows :
        (slot : ℕ) (space : SpaceState) → slot < SLOTS
        → part_at board (component.Space slot) ≡ Some (part.Space space) → LeadToRows space.windows
    pub ends :
        (slot : ℕ) (space : SpaceState) → slot < SLOTS
        → part_at board (component.Space slot) ≡ Some (part.Space space) → EndWithin space.windows
    pub areas :
        (slot row : ℕ) (live : Live E) → slot < SLOTS → row < GUEST_REGIONS
        → part_at board (component.Body slot row) ≡ Some (part.Body (Some live))
        → ShowsArea board live.plan.size live.plan.form
    pub parents :
        (slot row : ℕ) (live : Live E) → slot < SLOTS → row < GUEST_REGIONS
        → part_at board (component.Body slot row) ≡ Some (part.Body (Some live)) → IsParent row live.plan.parent

-- A board is within bounds that has the areas of an opening and holds a state within bounds.
abbrev pub HoldsWithinBounds : {E : Type 0} → (state : E → DevState) → Board E → Type 0
HoldsWithinBounds state board =
    (O : Origin) (s : State (machine O)) → Holds state O s board → board.layout.areas ≡ length O.opening.areas
    → IsBounded O s → IsBoardBounded board
