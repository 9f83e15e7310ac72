-- What a run in rounds leaves.
use Rattle.std.specs.Prelude.{◌≡◌, ℕ, ◌<◌, ◌≤◌, Option, Some, None, Any}
use Rattle.hv_text.specs.declared.limits.TheConstants.{GREATEST_STAMP, MOST_LINES, TERMINALS}
use Rattle.hv_model.specs.declared.opening.Opening.{Opening}
use Rattle.hv_model.specs.Origin.{Origin, terminals}
use Rattle.hv_model.specs.Legal.{IsFinishedRun, IsStoppedRun, lines_among}
use Rattle.hv_model.specs.Rounds.{IsRounds}
use Rattle.hv_model.specs.Report.{AreTranscripts}
use Rattle.hv_model.specs.States.{ArePlain}
use Rattle.hv_rounds.specs.declared.whole.Outcome.{Outcome}

-- no terminal begins with more lines than its scripts may have
abbrev pub LinesFit : Opening → Type 0
LinesFit opening = (t : ℕ) → t < TERMINALS → lines_among opening.scripts t ≤ MOST_LINES

-- a run that came to its end: its history is finished and made in rounds and changes no VCPU, and these are its files and
-- transcripts
pub record IsFinished (O : Origin) (o : Outcome) : Type 0 where
  pub run : IsFinishedRun O o.history.items o.files O.devices
  pub rounds : IsRounds O o.history.items
  pub shown : AreTranscripts O o.history.items terminals o.transcripts
  pub plain : ArePlain o.history.items

-- a run that a step stopped whose greatest stamp was the last one: its history is legal and has an event of that stamp
pub record IsSpent (O : Origin) (o : Outcome) (stamp : ℕ) : Type 0 where
  pub run : IsStoppedRun O o.history.items o.files O.devices
  pub last : stamp ≡ GREATEST_STAMP
  pub held : Any (λ e. e.stamp ≡ stamp) o.history.items

-- a run ended, or it was stopped by its stamps
abbrev pub IsOutcome : Origin → Outcome → Option ℕ → Type 0
IsOutcome O o None = IsFinished O o
IsOutcome O o (Some stamp) = IsSpent O o stamp
