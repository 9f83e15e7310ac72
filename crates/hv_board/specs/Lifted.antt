-- An event while the parts of its components are out.
use Rattle.std.specs.Prelude.{◌≡◌, ℕ, ◌+◌, ◌≤◌, List, length, map, vec_capacity}
use Rattle.hv_emu.specs.Device.{DevState}
use Rattle.hv_event.specs.declared.event.ActorId.{ActorId}
use Rattle.hv_event.specs.declared.event.CellId.{CellId}
use Rattle.hv_handed.specs.Given.{given}
use Rattle.hv_handed.specs.declared.told.Made.{Made}
use Rattle.hv_machine.specs.Machine.{State, MayHappen, next_state}
use Rattle.hv_model.specs.Cell.{Actor}
use Rattle.hv_model.specs.declared.entry.Entry.{Entry}
use Rattle.hv_model.specs.Origin.{Origin}
use Rattle.hv_model.specs.Rules.{IsAllowedAt, machine}
use Rattle.hv_parts.specs.Kinds.{AreOf}
use Rattle.hv_parts.specs.Value.{valued}
use Rattle.hv_step.specs.declared.step.Step.{Step}
use Rattle.hv_text.specs.declared.limits.TheConstants.{GREATEST_STAMP}
use Rattle.hv_board.specs.Board.{AreInOrder, IsWhole, greatest_at}
use Rattle.hv_board.specs.Carrying.{AreFrom, AreOut}
use Rattle.hv_board.specs.Holds.{Holds}
use Rattle.hv_board.specs.Places.{count_of, place_of}
use Rattle.hv_board.specs.declared.board.Board.{Board}
use Rattle.hv_board.specs.declared.lifted.Lifted.{Lifted}

module _ {E : Type 0} (state : E → DevState) where
  -- The parts of some components are out of a board that was whole before, for an event.
  pub record IsLifted (xs : List CellId) (lifted : Lifted E) (board : Board E) : Type 0 where
    pub whole : IsWhole state lifted.before.value
    pub layout : board.layout ≡ lifted.before.value.layout
    pub order : AreInOrder board.layout xs
    pub places : board.places.items ≡ map (place_of board.layout) xs
    pub many : length lifted.were.value.items ≡ length xs
    pub out : AreOut board.places.items lifted.were.value.items lifted.before.value.cells.items board.cells.items
    pub from : AreFrom board.places.items lifted.were.value.items lifted.before.value.cells.items
    pub stamp : lifted.stamp ≤ GREATEST_STAMP
    pub room : count_of board.layout ≤ vec_capacity lifted.parts
    pub room_places : count_of board.layout ≤ vec_capacity board.places

  -- Parts are just taken out of a board for an event, whose stamp is one more than the greatest of its actor's and theirs.
  pub record IsNext (own : ℕ) (xs : List CellId) (before : Board E) (lifted : Lifted E) : Type 0 where
    pub before_is : lifted.before.value ≡ before
    pub parts : lifted.parts.items ≡ lifted.were.value.items
    pub kinds : AreOf xs (map (valued state) lifted.parts.items)
    pub next : lifted.stamp ≡ greatest_at before own xs + 1

  -- The entry of an event of an actor: with its index and its stamp, and what came of its step.
  abbrev pub entry_of : (by : ActorId) → (index stamp : ℕ) → Step → Made E → Entry
  entry_of by index stamp step made = record {
    event = record { actor = by; index = index; stamp = stamp; step = step; reply = made.reply };
    carry = given state made.handed.value;
  }

  -- An event is one of the abstract machine, and leads there from the state that a board holds to the one that another
  -- holds.
  pub record IsEvent (O : Origin) (s : State (machine O)) (e : Entry) (board : Board E) : Type 0 where
    pub may : MayHappen (machine O) s e
    pub holds : Holds state O (next_state (machine O) s e) board

  -- From each state that a board holds, an event leads to the one that another holds, where its actor agrees to it and has
  -- a stamp that led to the event's.
  abbrev pub LeadsOn : (before after : Board E) → List CellId → Entry → Type 0
  LeadsOn before after xs e =
      (O : Origin) (s : State (machine O)) → Holds state O s before
      → IsAllowedAt (Actor e.event.actor) (s (Actor e.event.actor)).value e
      → e.event.stamp ≡ greatest_at before (s (Actor e.event.actor)).stamp xs + 1 → IsEvent O s e after
