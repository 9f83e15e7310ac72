-- What stands on a board.
use Rattle.std.specs.Prelude.{◌≡◌, ℕ, ◌≤◌, max, List, [], length, map, slice_index_or, Option, Some, vec_capacity}
use Rattle.std.specs.List.{AllByRecursion}
use Rattle.hv_emu.specs.Device.{DevState}
use Rattle.hv_event.specs.declared.event.CellId.{CellId}
use Rattle.hv_machine.specs.Machine.{greatest}
use Rattle.hv_parts.specs.Kinds.{IsPartOf}
use Rattle.hv_parts.specs.Value.{valued}
use Rattle.hv_parts.specs.declared.part.Part.{Part}
use Rattle.hv_text.specs.declared.limits.TheConstants.{GREATEST_STAMP}
use Rattle.hv_board.specs.Carrying.{empty}
use Rattle.hv_board.specs.Held.{IsRising}
use Rattle.hv_board.specs.Places.{HasPlace, count_of, place_of}
use Rattle.hv_board.specs.declared.board.Board.{Board}
use Rattle.hv_board.specs.declared.cell.Cell.{Cell}
use Rattle.hv_board.specs.declared.layout.Layout.{Layout}

-- Some components have places, and stand in the order in which they are locked.
pub record AreInOrder (layout : Layout) (xs : List CellId) : Type 0 where
  pub rising : IsRising (map (place_of layout) xs)
  pub have : AllByRecursion (HasPlace layout) xs

module _ {E : Type 0} where
  -- The cell of a component among the cells of a board.
  abbrev pub cell_of : Layout → List (Cell E) → CellId → Cell E
  cell_of layout cells x = slice_index_or cells (place_of layout x) empty

  -- The cell of a component of a board.
  abbrev pub cell_at : Board E → CellId → Cell E
  cell_at board x = cell_of board.layout board.cells.items x

  -- The part of a component of a board, unless it is out.
  abbrev pub part_at : Board E → CellId → Option (Part E)
  part_at board x = (cell_at board x).part

  -- The greatest of an actor's stamp and of those of some components.
  abbrev pub greatest_at : Board E → (own : ℕ) → List CellId → ℕ
  greatest_at board own xs = max own (greatest (map (λ x. (cell_at board x).stamp) xs))

  -- A board has room for the parts of all its components while they are out, and for their places.
  pub record HasRoom (board : Board E) : Type 0 where
    pub parts : board.room.items ≡ []
    pub enough : count_of board.layout ≤ vec_capacity board.room
    pub places : count_of board.layout ≤ vec_capacity board.places

module _ {E : Type 0} (state : E → DevState) where
  -- A cell has a part of the kind of a component, and a stamp that an event can have.
  pub record IsFull (x : CellId) (cell : Cell E) : Type 0 where
    pub part : Part E
    pub is : cell.part ≡ Some part
    pub kind : IsPartOf x (valued state part)
    pub bounded : cell.stamp ≤ GREATEST_STAMP

  -- A board is whole: it has each of its components, and no part is out.
  pub record IsWhole (board : Board E) : Type 0 where
    pub long : length board.cells.items ≡ count_of board.layout
    pub each : (x : CellId) → HasPlace board.layout x → IsFull x (cell_at board x)
    pub room : HasRoom board
