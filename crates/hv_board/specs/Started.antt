-- The cells of a board at the start of a run.
use Rattle.std.specs.Prelude.{◌≡◌, ℕ, ◌<◌, List, length}
use Rattle.hv_emu.specs.Device.{DevState}
use Rattle.hv_event.specs.declared.event.CellId.{CellId}
use Rattle.hv_model.specs.Cell.{Component}
use Rattle.hv_model.specs.Legal.{start}
use Rattle.hv_model.specs.Origin.{Origin}
use Rattle.hv_board.specs.Board.{cell_of}
use Rattle.hv_board.specs.Holds.{HoldsAt}
use Rattle.hv_board.specs.Places.{HasPlace, place_of}
use Rattle.hv_board.specs.declared.cell.Cell.{Cell}
use Rattle.hv_board.specs.declared.layout.Layout.{Layout}

module _ {E : Type 0} (state : E → DevState) where
  -- So many cells are there, and each component that stands among them is at its start.
  pub record AreStarted (O : Origin) (layout : Layout) (cells : List (Cell E)) (count : ℕ) : Type 0 where
    pub long : length cells ≡ count
    pub each : (x : CellId) → HasPlace layout x → place_of layout x < count → HoldsAt state x (start O (Component x)) (cell_of layout cells x)

  -- Cells that are at their start become more of them.
  abbrev pub StartsTo : Layout → (old : List (Cell E)) → (before : ℕ) → (new : List (Cell E)) → (after : ℕ) → Type 0
  StartsTo layout old before new after = (O : Origin) → AreStarted O layout old before → AreStarted O layout new after
