-- A board holds a state of the abstract machine.
use Rattle.std.specs.Prelude.{◌≡◌, Some}
use Rattle.hv_emu.specs.Device.{DevState}
use Rattle.hv_event.specs.declared.event.CellId.{CellId}
use Rattle.hv_event.specs.declared.event.CellId.TheVariants as component
use Rattle.hv_machine.specs.Machine.{CellState, State}
use Rattle.hv_model.specs.Cell.{Component}
use Rattle.hv_model.specs.Origin.{Origin}
use Rattle.hv_model.specs.Rules.{Value, rules, machine}
use Rattle.hv_parts.specs.Value.{PartValue, valued, Dir, Shelf, Files, Space, Queue, Vcpu, Body, Area}
use Rattle.hv_parts.specs.declared.part.Part.{Part}
use Rattle.hv_board.specs.Board.{cell_at}
use Rattle.hv_board.specs.Places.{HasPlace}
use Rattle.hv_board.specs.declared.board.Board.{Board}
use Rattle.hv_board.specs.declared.cell.Cell.{Cell}

-- The value of a component in the abstract machine, as the value of a part.
abbrev pub part_value : (x : CellId) → Value (Component x) → PartValue
part_value component.Dir directory = Dir directory
part_value component.Shelf devices = Shelf devices
part_value component.Files files = Files files
part_value (component.Space slot) space = Space space
part_value (component.Queue hart) queue = Queue queue
part_value (component.Vcpu vcpu) value = Vcpu value
part_value (component.Body slot row) body = Body body
part_value (component.Area area) bytes = Area bytes

module _ {E : Type 0} (state : E → DevState) where
  -- A cell holds the state of a component: a part with its value, and its stamp.
  pub record HoldsAt (x : CellId) (s : CellState rules (Component x)) (cell : Cell E) : Type 0 where
    pub part : Part E
    pub is : cell.part ≡ Some part
    pub value : valued state part ≡ part_value x s.value
    pub stamp : cell.stamp ≡ s.stamp

  -- A board holds a state of the abstract machine: it has as many harts, and each of its components has its value and its
  -- stamp there.
  pub record Holds (O : Origin) (s : State (machine O)) (board : Board E) : Type 0 where
    pub harts : O.opening.harts ≡ board.layout.harts
    pub each : (x : CellId) → HasPlace board.layout x → HoldsAt x (s (Component x)) (cell_at board x)

  -- A board holds all states that another held.
  abbrev pub HoldsAsBefore : (old new : Board E) → Type 0
  HoldsAsBefore old new = (O : Origin) (s : State (machine O)) → Holds O s old → Holds O s new
