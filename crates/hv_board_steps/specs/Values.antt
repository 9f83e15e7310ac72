-- What the components of a board have, by kind.
use Rattle.std.specs.Prelude.{ℕ, List, [], Option, Some, None}
use Rattle.hv_board.specs.Board.{part_at}
use Rattle.hv_board.specs.declared.board.Board.{Board}
use Rattle.hv_body.specs.Body.{seen}
use Rattle.hv_dir.specs.Pool.{devices_of}
use Rattle.hv_emu.specs.Device.{DevState}
use Rattle.hv_event.specs.declared.event.CellId.TheVariants as component
use Rattle.hv_parts.specs.declared.part.Part.{Part}
use Rattle.hv_parts.specs.declared.part.Part.TheVariants as part
use Rattle.hv_rules.specs.Body.{BodyValue}
use Rattle.hv_space.specs.Space.{SpaceState, no_windows}

module _ {E : Type 0} where
  -- The space that a part is.
  abbrev pub space_of : Option (Part E) → SpaceState
  space_of (Some (part.Space space)) = space
  space_of _ = no_windows

  -- The space of the guest in a slot of a board.
  abbrev pub space_on : Board E → (slot : ℕ) → SpaceState
  space_on board slot = space_of (part_at board (component.Space slot))

module _ {E : Type 0} (state : E → DevState) where
  -- The devices of the pool that a part is.
  abbrev pub pool_of : Option (Part E) → List DevState
  pool_of (Some (part.Shelf pool)) = devices_of state pool
  pool_of _ = []

  -- The devices that no guest of a board has.
  abbrev pub pool_on : Board E → List DevState
  pool_on board = pool_of (part_at board component.Shelf)

  -- The body that a part is.
  abbrev pub body_of : Option (Part E) → BodyValue
  body_of (Some (part.Body body)) = seen state body
  body_of _ = None

  -- The body of a row of the guest in a slot of a board.
  abbrev pub body_on : Board E → (slot row : ℕ) → BodyValue
  body_on board slot row = body_of (part_at board (component.Body slot row))
