-- What a transcript knows of a line, and what a step that a session asked for shows.
use Rattle.std.specs.Prelude.{◌≡◌, ◌+◌, ◌++◌, ℕ, false, Option, None, Some, List}
use Rattle.hv_answer.specs.declared.reply.Reply.{Reply}
use Rattle.hv_rules.specs.Carry.{Carry, nothing}
use Rattle.hv_rules.specs.Line.{LineState, line_after}
use Rattle.hv_step.specs.declared.step.Step.{Step}
use Rattle.hv_model.specs.Plans.{Planned}
use Rattle.hv_model.specs.Session.{Present, Session, begun, kept, made_at, present}
use Rattle.hv_model.specs.Terminal.{is_interrupt}
use Rattle.hv_model.specs.Transcript.{ShowsPresent, begin_shown, changed_by, going_shown, while_left}
use Rattle.hv_shown.specs.Appends.{AppendsStep}
use Rattle.hv_transcript.specs.declared.kept.Kept.{Kept}
use Rattle.hv_transcript.specs.Telling.{TranscriptKept, refused_in, session_told}

-- A transcript with this text, that knows this of its line.
abbrev pub transcript_of : List ℕ → Kept → TranscriptKept
transcript_of text k = record { text = text; changed = k.changed; guest = k.guest; refused = k.refused }

-- The guest that a line knows.
abbrev pub guest_in : Option LineState → Option (ℕ × ℕ)
guest_in None = None
guest_in (Some l) = l.guest

-- What is known of a line that changed so many VCPUs, and of none.
abbrev pub known_of : Option LineState → (changed : ℕ) → Kept
known_of line changed = record { changed = while_left line changed; guest = guest_in line; refused = refused_in line }

-- What is left of a line once a reply is taken, by replies alone.
abbrev pub left_told : LineState → Reply → Option LineState
left_told l r = kept (line_after l r nothing)

-- A step of a line, which changed so many VCPUs with it, shows its text; and this is known of the line from then on.
pub record ShowsGoing (plans : List Planned) (l : LineState) (changed : ℕ) (s : Step) (r : Reply) (from to : List ℕ) (new : Kept) : Type 0 where
  pub appended : to ≡ from ++ going_shown plans l changed s r
  pub known : new ≡ known_of (left_told l r) changed

-- The next command, if there is one, is shown as it is begun.
abbrev pub begun_shown : Session → List ℕ
begun_shown s = begin_shown None (begun s)

-- The one step of a command shows the command, as it is begun, and its answer; and it leaves no line.
pub record ShowsOnce (plans : List Planned) (begun : List ℕ) (s : Step) (r : Reply) (from to : List ℕ) (new : Kept) : Type 0 where
  pub answer : AppendsStep plans s r (from ++ begun) to
  pub known : new ≡ known_of None 0

-- A step that was asked for, where the session is at p, and at q by what is told: what it shows stands behind what was
-- shown before, and this is known from then on.
pub record ShowsAt (plans : List Planned) (p q : Option Present) (before : Session) (old : Kept) (s : Step) (r : Reply) (from to : List ℕ) (new : Kept) : Type 0 where
  pub asked : is_interrupt s ≡ false
  pub behind : List ℕ
  pub shows : ShowsPresent plans q (old.changed + changed_by r) s r behind
  pub appended : to ≡ from ++ (begin_shown (session_told old.guest before).line (begun before) ++ behind)
  pub told :
      (c : Carry)
      → session_told new.guest (made_at p before r c) ≡ made_at q (session_told old.guest before) r nothing
  pub changed :
      new.changed
      ≡ while_left (made_at q (session_told old.guest before) r nothing).line (old.changed + changed_by r)
  pub refused : (c : Carry) → new.refused ≡ refused_in (made_at p before r c).line

abbrev pub ShowsNext : List Planned → (before : Session) → (old : Kept) → Step → Reply → (from to : List ℕ) → (new : Kept) → Type 0
ShowsNext plans before old s r from to new =
    ShowsAt plans (present plans before) (present plans (session_told old.guest before)) before old s r from to new
