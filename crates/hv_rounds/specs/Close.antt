-- A board that is closed.
use Rattle.std.specs.Prelude.{◌≡◌, ℕ, Option, List, [], ◌∷◌, map}
use Rattle.hv_event.specs.declared.event.Event.{Event}
use Rattle.hv_merge.specs.Merging.{IsMergeOf}
use Rattle.hv_model.specs.declared.entry.Entry.{Entry}
use Rattle.hv_rounds.specs.declared.board.Board.{Board}
use Rattle.hv_rounds.specs.declared.whole.Outcome.{Outcome}
use Rattle.hv_rounds.specs.Board.{own_events}

-- the logs of the four terminals
abbrev pub logs_of : List Entry → List (List Event)
logs_of es = own_events 0 es ∷ own_events 1 es ∷ own_events 2 es ∷ own_events 3 es ∷ []

-- the outcome has the merged logs, the board's files, and what the terminals have shown
pub record Closes (b : Board) (made : List Entry) (spent : Option ℕ) (o : Outcome) : Type 0 where
  pub history : IsMergeOf (logs_of made) o.history.items
  pub files : o.files ≡ b.files.tree
  pub shown : o.transcripts ≡ map (λ t. t.shown) b.terminals.items
  pub spent_is : o.spent ≡ spent
