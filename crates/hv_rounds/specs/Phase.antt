-- What the phases of a run leave.
use Rattle.std.specs.Prelude.{◌≡◌, ℕ, Option, Some, None, List, []}
use Rattle.std.specs.List.{AllByRecursion}
use Rattle.hv_machine.specs.Machine.{State}
use Rattle.hv_event.specs.declared.event.ActorId.TheVariants.{Terminal}
use Rattle.hv_model.specs.declared.entry.Entry.{Entry}
use Rattle.hv_model.specs.Origin.{Origin}
use Rattle.hv_model.specs.Rules.{machine}
use Rattle.hv_model.specs.Session.{HasBooted}
use Rattle.hv_model.specs.Legal.{start, own_at_start}
use Rattle.hv_model.specs.Rounds.{TakesTurns}
use Rattle.hv_rounds.specs.declared.terminal.Terminal.{Terminal as TerminalCell}
use Rattle.hv_rounds.specs.declared.board.Board.{Board}
use Rattle.hv_rounds.specs.Cells.{session_of}
use Rattle.hv_rounds.specs.Board.{at, Goes, FoundLast, EndedFrom}

-- Terminal 0 alone made these of its boot script, and none of its own script
pub record BootPart (O : Origin) (made : List Entry) (b : Board) : Type 0 where
  pub goes : Goes O (start O) [] made b
  pub alone : AllByRecursion (λ e. e.event.actor ≡ Terminal 0) made
  pub own : (d : TerminalCell) → (at b 0 d).own ≡ own_at_start O 0

-- the boot script has ended on the board; or a step was stopped before its end, and the board has the files of then
abbrev pub BootEnds : Origin → List Entry → Board → Option ℕ → Type 0
BootEnds O made b None = BootPart O made b × ((d : TerminalCell) → HasBooted (session_of (at b 0 d)))
BootEnds O made b (Some n) =
    (c : Board) × BootPart O made c × ((d : TerminalCell) → HasBooted (session_of (at c 0 d)) → ⊥) × (b.files ≡ c.files) × FoundLast c n

-- all terminals have ended on the board, and took turns; or a step was stopped, and the board has the files of then
abbrev pub RoundsEnd : (O : Origin) → State (machine O) → List Entry → List Entry → Board → Option ℕ → Type 0
RoundsEnd O s before made b None = Goes O s before made b × TakesTurns O s [] made × EndedFrom b 0
RoundsEnd O s before made b (Some n) = (c : Board) × Goes O s before made c × (b.files ≡ c.files) × FoundLast c n

-- the boot script has ended on the board
pub record IsBooted (O : Origin) (made : List Entry) (b : Board) : Type 0 where
  pub part : BootPart O made b
  pub ended : (d : TerminalCell) → HasBooted (session_of (at b 0 d))
