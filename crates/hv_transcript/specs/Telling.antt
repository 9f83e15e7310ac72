-- What a terminal has shown so far, and what its next event adds.
use Rattle.std.specs.Prelude.{◌≡◌, ◌≤◌, ◌++◌, ℕ, true, false, Option, None, Some, List, [], ◌∷◌}
use Rattle.std.specs.Option.{option_map}
use Rattle.hv_answer.specs.declared.reply.Reply.{Reply}
use Rattle.hv_event.specs.declared.event.Event.{Event}
use Rattle.hv_refusal.specs.declared.refusal.Refusal.{Refusal}
use Rattle.hv_rules.specs.Carry.{Carry}
use Rattle.hv_rules.specs.Line.{LineState, why_refused}
use Rattle.hv_step.specs.declared.step.Step.{Step}
use Rattle.hv_model.specs.Plans.{Planned}
use Rattle.hv_model.specs.Session.{Session, session_after}
use Rattle.hv_model.specs.Terminal.{TerminalState, is_interrupt}
use Rattle.hv_model.specs.Transcript.{ShowsEvent, Telling, told_after}
use Rattle.hv_shown.specs.Appends.{IsStepShown}
use Rattle.hv_terminals.specs.declared.due.Begins.{Begins}
use Rattle.hv_terminals.specs.declared.due.Begins.TheVariants as begins

-- A transcript: its text, and of the present line how many VCPUs it changed, the guest that it learnt from replies alone,
-- and why it turned back or ended, if it did.
pub record TranscriptKept : Type 0 where
  pub text : List ℕ
  pub changed : ℕ
  pub guest : Option (ℕ × ℕ)
  pub refused : Option Refusal

-- The transcript of a terminal that has shown nothing.
abbrev pub IsNew : TranscriptKept → Type 0
IsNew x = x ≡ record { text = []; changed = 0; guest = None; refused = None }

-- What is told of a terminal's scripts: what they have come to, where its line has the guest that replies alone gave it.
abbrev pub with_told : (guest : Option (ℕ × ℕ)) → LineState → LineState
with_told guest l = record l { guest = guest }

abbrev pub session_told : (guest : Option (ℕ × ℕ)) → Session → Session
session_told guest s = record s { line = option_map (with_told guest) s.line }

abbrev pub telling_of : TranscriptKept → Session → Telling
telling_of x s = record { session = session_told x.guest s; changed = x.changed }

-- Why a line turned back or ended, if there is one and it did.
abbrev pub refused_in : Option LineState → Option Refusal
refused_in None = None
refused_in (Some l) = why_refused l.place

abbrev pub KeepsRefusal : TranscriptKept → Session → Type 0
KeepsRefusal x s = x.refused ≡ refused_in s.line

-- A transcript keeps up with a terminal: it knows why the present line turned back or ended, and counts no more changes
-- than the terminal made events.
pub record KeepsUp (x : TranscriptKept) (t : TerminalState) : Type 0 where
  pub refusal : KeepsRefusal x t.session
  pub changed : x.changed ≤ t.count

-- What the one step of a command shows can be shown.
abbrev pub CanBeShown : Begins → Step → Reply → Type 0
CanBeShown begins.Command s r = IsStepShown s r
CanBeShown b s r = Unit {0}

-- A step that a session asked for shows its text behind what was shown before, and what is told from then on is what the
-- transcript knows, whatever the step hands over.
pub record ShowsAsked (plans : List Planned) (old new : TranscriptKept) (before : Session) (e : Event) : Type 0 where
  pub here : List ℕ
  pub shows : ShowsEvent plans (telling_of old before) e here
  pub appended : new.text ≡ old.text ++ here
  pub told :
      (c : Carry)
      → telling_of new (session_after plans before e.reply c) ≡ told_after plans (telling_of old before) e

-- A step that was owed, an interrupt, shows nothing and changes nothing; another is one that the session asked for.
abbrev pub TellsWhere : (owed : List Step) → TerminalState → (old new : TranscriptKept) → Event → Type 0
TellsWhere [] t old new e = (is_interrupt e.step ≡ false) × ShowsAsked t.plans old new t.session e
TellsWhere (due ∷ owed) t old new e = (is_interrupt e.step ≡ true) × (new ≡ old)

-- What an event of a terminal adds to its transcript.
abbrev pub TellsOn : TerminalState → (old new : TranscriptKept) → Event → Type 0
TellsOn t old new e = TellsWhere t.owed t old new e
