-- What holds of the components of a board beside their kinds: it follows from the laws of legal histories, and events of a
-- guest's regions ask for it.
use Rattle.std.specs.Prelude.{◌≡◌, ◌<◌, ◌≤◌, ◌+◌, ℕ, All, List, Option, Some, length}
use Rattle.hv_board.specs.Board.{part_at}
use Rattle.hv_board.specs.declared.board.Board.{Board}
use Rattle.hv_body.specs.declared.live.Live.{Live}
use Rattle.hv_event.specs.declared.event.CellId.TheVariants as component
use Rattle.hv_guest_steps.specs.Regions.{ShowWithin}
use Rattle.hv_parts.specs.declared.part.Part.{Part}
use Rattle.hv_parts.specs.declared.part.Part.TheVariants as part
use Rattle.hv_programs.specs.Owed.{IsParent}
use Rattle.hv_region.specs.Addresses.{end_of}
use Rattle.hv_region.specs.declared.plan.Form.{Form}
use Rattle.hv_region.specs.declared.plan.Form.TheVariants.{Real}
use Rattle.hv_region.specs.declared.window.Window.{Window}
use Rattle.hv_space.specs.Space.{SpaceState}
use Rattle.hv_text.specs.declared.limits.TheConstants.{GUEST_REGIONS, SLOTS}

-- Windows lead to rows of a guest's plan.
abbrev pub LeadToRows : List Window → Type 0
LeadToRows windows = All (λ window. window.target < GUEST_REGIONS) windows

-- Windows end within the addresses of their type.
abbrev pub EndWithin : List Window → Type 0
EndWithin windows = All (λ window. window.base + window.size ≤ end_of window.kind) windows

module _ {E : Type 0} where
  -- How many bytes an area has; what is no area has none.
  abbrev pub length_of : Option (Part E) → ℕ
  length_of (Some (part.Area bytes)) = length bytes
  length_of _ = 0

  -- A region that shows a part of an area ends within one that the board has.
  abbrev pub HasArea : Board E → (size : ℕ) → Form → Type 0
  HasArea board size (Real area offset) =
      (area < board.layout.areas) × (offset + size ≤ length_of (part_at board (component.Area area)))
  HasArea board size _ = Unit {0}

  -- A board is sound: the windows of each guest show nothing behind memory, lead to rows and end within addresses, the live region of a row has
  -- the area that it shows, and the region that takes its interrupts is another.
  pub record IsSound (board : Board E) : Type 0 where
    pub spaces :
        (slot : ℕ) (space : SpaceState) → slot < SLOTS
        → part_at board (component.Space slot) ≡ Some (part.Space space) → ShowWithin space.windows
    pub rows :
        (slot : ℕ) (space : SpaceState) → slot < SLOTS
        → part_at board (component.Space slot) ≡ Some (part.Space space) → LeadToRows space.windows
    pub ends :
        (slot : ℕ) (space : SpaceState) → slot < SLOTS
        → part_at board (component.Space slot) ≡ Some (part.Space space) → EndWithin space.windows
    pub areas :
        (slot row : ℕ) (live : Live E) → slot < SLOTS → row < GUEST_REGIONS
        → part_at board (component.Body slot row) ≡ Some (part.Body (Some live)) → HasArea board live.plan.size live.plan.form
    pub parents :
        (slot row : ℕ) (live : Live E) → slot < SLOTS → row < GUEST_REGIONS
        → part_at board (component.Body slot row) ≡ Some (part.Body (Some live)) → IsParent row live.plan.parent
