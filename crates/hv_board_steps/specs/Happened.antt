-- An event that was made on a board, or held up.
use Rattle.std.specs.Prelude.{◌≡◌, ◌+◌, ◌≤◌, ℕ, List}
use Rattle.std.specs.List.{AllByRecursion}
use Rattle.hv_answer.specs.declared.reply.Reply.{Reply}
use Rattle.hv_board.specs.Board.{greatest_at}
use Rattle.hv_board.specs.Holds.{HoldsAsBefore}
use Rattle.hv_board.specs.Lifted.{LeadsOn, entry_of}
use Rattle.hv_board.specs.Places.{HasPlace}
use Rattle.hv_board.specs.declared.board.Board.{Board}
use Rattle.hv_board.specs.declared.stop.Stop.{Stop}
use Rattle.hv_board.specs.declared.stop.Stop.TheVariants.{Spent}
use Rattle.hv_emu.specs.Device.{DevState}
use Rattle.hv_event.specs.declared.event.ActorId.{ActorId}
use Rattle.hv_event.specs.declared.event.CellId.{CellId}
use Rattle.hv_handed.specs.Given.{given}
use Rattle.hv_handed.specs.Told.{IsTold}
use Rattle.hv_handed.specs.declared.told.Made.{Made}
use Rattle.hv_rules.specs.Carry.{Carry}
use Rattle.hv_rules.specs.Footprint.{components}
use Rattle.hv_rules.specs.Handed.{handed_over}
use Rattle.hv_step.specs.declared.step.Step.{Step}
use Rattle.hv_text.specs.declared.limits.TheConstants.{GREATEST_STAMP}
use Rattle.hv_board_steps.specs.declared.happened.Happened.{Happened}

-- Nothing is wanted of what comes of a step.
abbrev pub Anything : Reply → Carry → Type 0
Anything r c = Unit {0}

module _ {E : Type 0} (state : E → DevState) where
  -- What a step of an actor touched on a board, by what came of it.
  abbrev pub touched_at : (by : ActorId) → Step → Board E → Made E → List CellId
  touched_at by s board made = components board.layout.harts by s made.reply (given state made.handed.value)

  -- A step of an actor with a stamp was made on a board: the event's stamp is one more than the greatest of its actor's
  -- and those of what it touched, it leads from each state that the board held to one that it holds, it hands over what its
  -- row names alone, and the actor learns of that what it has to.
  pub record IsHappened (by : ActorId) (own : ℕ) (s : Step) (before after : Board E) (h : Happened E) : Type 0 where
    pub next : h.stamp ≡ greatest_at before own (touched_at by s before h.made) + 1
    pub bounded : h.stamp ≤ GREATEST_STAMP
    pub leads :
        (index : ℕ)
        → LeadsOn state before after (touched_at by s before h.made) (entry_of state by index h.stamp s h.made)
    pub alone : handed_over s (given state h.made.handed.value) ≡ given state h.made.handed.value
    pub told : IsTold (given state h.made.handed.value) h.made.told

  -- What came of a step, and what it handed over, is as it is wanted.
  abbrev pub Gives : (Wanted : Reply → Carry → Type 0) → Happened E → Type 0
  Gives Wanted h = Wanted h.made.reply (given state h.made.handed.value)

-- A step of an actor with a stamp would be the last: as something that is wanted came of it, the greatest of the actor's
-- stamp and those of what it touches on the board is the last one.
pub record FindsLast {E : Type 0} (by : ActorId) (own : ℕ) (s : Step) (Wanted : Reply → Carry → Type 0) (before : Board E) : Type 0 where
  pub reply : Reply
  pub carry : Carry
  pub wanted : Wanted reply carry
  pub alone : handed_over s carry ≡ carry
  pub have : AllByRecursion (HasPlace before.layout) (components before.layout.harts by s reply carry)
  pub found : greatest_at before own (components before.layout.harts by s reply carry) ≡ GREATEST_STAMP

module _ {E : Type 0} (state : E → DevState) where
  -- A step of an actor with a stamp was held up: the board holds what it held, and where that is for a stamp, it is the
  -- last one.
  pub record IsHeldUp (by : ActorId) (own : ℕ) (s : Step) (Wanted : Reply → Carry → Type 0) (before after : Board E) (why : Stop) : Type 0 where
    pub holds : HoldsAsBefore state before after
    pub spent : (stamp : ℕ) → why ≡ Spent stamp → (stamp ≡ GREATEST_STAMP) × FindsLast by own s Wanted before
