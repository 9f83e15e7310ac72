-- What a call keeps of its run, and what it writes.
use Rattle.std.specs.Prelude.{◌≡◌, ℕ, List, Option, Bool, true, false, IsTrue, IsSomeAnd, Any, map}
use Rattle.std.specs.Io.KnownBytes.{Appends, IsAtEnd}
use Rattle.hv_text.specs.declared.limits.TheConstants.{GREATEST_STAMP}
use Rattle.hv_emu.specs.Device.{DevState}
use Rattle.hv_base.specs.Writing.{AppendsFront}
use Rattle.hv_model.specs.Origin.{origin_of}
use Rattle.hv_model.specs.Legal.{IsFinishedRun, IsStoppedRun}
use Rattle.hv_model.specs.Rounds.{IsRounds}
use Rattle.hv_model.specs.Report.{IsReport}
use Rattle.xvsim.specs.Given.{GaveBytes}
use Rattle.xvsim.specs.Opening.{IsOpening}
use Rattle.xvsim.specs.declared.kept.KeptOf.{KeptOf}
use Rattle.xvsim.specs.declared.kept.KeptRunOf.{KeptRunOf}
use Rattle.xvsim.specs.declared.status.Status.{Status}
use Rattle.xvsim.specs.declared.status.Status.TheVariants as status

-- the input was read to its end, and the run begins with what its bytes give
pub record IsRunOf {E : Type 0} (told left : Option (List ℕ)) (ended : Bool) (run : KeptRunOf E) : Type 0 where
  pub all_read : IsTrue ended
  pub nothing_left : IsAtEnd left
  pub opening : GaveBytes told (λ bytes. IsOpening bytes run.opening)

-- the history is a finished run in rounds that began with these devices, and these are the files and the devices at its end
pub record IsFinished {E : Type 0} (state : E → DevState) (devices : List DevState) (run : KeptRunOf E) : Type 0 where
  pub legal : IsFinishedRun (origin_of run.opening devices) run.history.items run.state.files (map state run.shelf.items)
  pub rounds : IsRounds (origin_of run.opening devices) run.history.items

-- the history is a run with these devices that was stopped, and one of its events has the stamp that stopped it, the greatest one
pub record IsStoppedAt {E : Type 0} (state : E → DevState) (devices : List DevState) (stamp : ℕ) (run : KeptRunOf E) : Type 0 where
  pub legal : IsStoppedRun (origin_of run.opening devices) run.history.items run.state.files (map state run.shelf.items)
  pub greatest : stamp ≡ GREATEST_STAMP
  pub held : Any (λ e. e.stamp ≡ stamp) run.history.items

-- a text is the report of a run that was made in turn, with its history
abbrev pub IsReportOf : {E : Type 0} → List DevState → KeptRunOf E → List ℕ → Type 0
IsReportOf devices run text = IsReport (origin_of run.opening devices) run.history.items false false text

-- the sink took exactly a report of the run
pub record AppendsReport {E : Type 0} (devices : List DevState) (old new : Option (List ℕ)) (run : KeptRunOf E) : Type 0 where
  pub report : List ℕ
  pub is_report : IsReportOf devices run report
  pub appended : Appends old new report

-- the sink took a front of a report of the run
pub record AppendsReportFront {E : Type 0} (devices : List DevState) (old new : Option (List ℕ)) (run : KeptRunOf E) : Type 0 where
  pub report : List ℕ
  pub is_report : IsReportOf devices run report
  pub appended : AppendsFront old new report

-- whether an answer comes after a whole output or a front of it
abbrev pub has_output : Status → Bool
has_output status.Done = true
has_output status.WriteFault = true
has_output _ = false

-- whether an answer comes after a run
abbrev pub has_run : Status → Bool
has_run status.Done = true
has_run status.WriteFault = true
has_run (status.StampsSpent stamp) = true
has_run _ = false

-- what is kept after each answer: a finished run, a stopped one, or what was kept before
abbrev pub KeepsRun : {E : Type 0} → (state : E → DevState) → List DevState → Status → KeptOf E → KeptOf E → Type 0
KeepsRun state devices status.Done old new = IsSomeAnd new.run (IsFinished state devices)
KeepsRun state devices status.WriteFault old new = IsSomeAnd new.run (IsFinished state devices)
KeepsRun state devices (status.StampsSpent stamp) old new = IsSomeAnd new.run (IsStoppedAt state devices stamp)
KeepsRun state devices _ old new = new ≡ old
