-- What steps that reach the memory of guests from outside reach on a board.
use Rattle.std.specs.Prelude.{◌<◌, ◌≤◌, ◌+◌, ℕ, List, ◌∷◌, Option, Some, None, IfSome, option_and_then}
use Rattle.hv_access_steps.specs.First.{size_of}
use Rattle.hv_board.specs.Board.{part_at}
use Rattle.hv_board.specs.declared.board.Board.{Board}
use Rattle.hv_board_steps.specs.Sound.{length_of}
use Rattle.hv_board_steps.specs.Values.{body_on, space_on}
use Rattle.hv_emu.specs.Device.{DevState}
use Rattle.hv_event.specs.declared.event.CellId.{CellId}
use Rattle.hv_event.specs.declared.event.CellId.TheVariants as component
use Rattle.hv_kinds.specs.declared.address.AddressType.TheVariants.{Memory}
use Rattle.hv_kinds.specs.declared.generation.Generation.{Generation}
use Rattle.hv_memory_steps.specs.Ranges.{shown_range}
use Rattle.hv_model.specs.Files.{read_file}
use Rattle.hv_parts.specs.declared.part.Part.{Part}
use Rattle.hv_parts.specs.declared.part.Part.TheVariants as part
use Rattle.hv_region.specs.declared.window.Window.{Window}
use Rattle.hv_rules.specs.Body.{shared_in}
use Rattle.hv_rules.specs.Footprint.{reached_by}
use Rattle.hv_rules.specs.Windows.{window_at}
use Rattle.hv_step.specs.declared.step.Step.{Step}
use Rattle.hv_step.specs.declared.step.Step.TheVariants as step
use Rattle.hv_text.specs.declared.limits.TheConstants.{GUEST_REGIONS}

-- A step loads a file.
abbrev pub IsLoad : Step → Type 0
IsLoad (step.Load s) = Unit {0}
IsLoad _ = ⊥

-- A step looks at memory.
abbrev pub IsMem : Step → Type 0
IsMem (step.Mem s) = Unit {0}
IsMem _ = ⊥

-- A load touches the directory, the files, the guest's space, and the body and the area that it reaches.
abbrev pub load_parts : Generation → Option Window → (area : Option (ℕ × ℕ)) → List CellId
load_parts guest window area =
    component.Dir ∷ component.Files ∷ component.Space guest.slot ∷ reached_by guest window area

-- A look touches the directory, the guest's space, and the body and the area that it reaches.
abbrev pub mem_parts : Generation → Option Window → (area : Option (ℕ × ℕ)) → List CellId
mem_parts guest window area = component.Dir ∷ component.Space guest.slot ∷ reached_by guest window area

-- A window leads to a row of a guest's plan.
abbrev pub LeadsToRow : Option Window → Type 0
LeadsToRow window = IfSome window (λ there. there.target < GUEST_REGIONS)

module _ {E : Type 0} where
  -- How many bytes a file of the tree that a part is has, if it is there.
  abbrev pub size_in : Option (Part E) → (path : List (List ℕ)) → Option ℕ
  size_in (Some (part.Files files)) path = size_of (read_file files path)
  size_in _ path = None

  -- How many bytes a file of a board has, if it is there.
  abbrev pub size_on : Board E → (path : List (List ℕ)) → Option ℕ
  size_on board path = size_in (part_at board component.Files) path

  -- The memory window of a guest that holds so many bytes from an address on; none holds a file that is missing.
  abbrev pub window_on : Board E → Generation → (address : ℕ) → (size : Option ℕ) → Option Window
  window_on board guest address size =
      option_and_then (λ n. window_at (space_on board guest.slot).windows Memory address n) size

  -- A board has an area.
  abbrev pub IsArea : Board E → (area : Option (ℕ × ℕ)) → Type 0
  IsArea board area = IfSome area (λ place. place.0 < board.layout.areas)

  -- An area of a board has so many bytes from an offset on.
  abbrev pub HasBytesOn : Board E → (size : Option ℕ) → (area : Option (ℕ × ℕ)) → Type 0
  HasBytesOn board size area =
      IfSome size (λ n. IfSome area (λ place. place.1 + n ≤ length_of (part_at board (component.Area place.0))))

module _ {E : Type 0} (state : E → DevState) where
  -- The area of which a window shows so many bytes from an address on, and the offset there; none without a window.
  abbrev pub area_shown : Board E → Generation → Option Window → (address size : ℕ) → Option (ℕ × ℕ)
  area_shown board guest None address size = None
  area_shown board guest (Some window) address size =
      shared_in (shown_range (body_on state board guest.slot window.target) window address size)

  -- The same of a file, if it is there.
  abbrev pub area_on : Board E → Generation → Option Window → (address : ℕ) → (size : Option ℕ) → Option (ℕ × ℕ)
  area_on board guest window address size =
      option_and_then (λ n. area_shown board guest window address n) size
