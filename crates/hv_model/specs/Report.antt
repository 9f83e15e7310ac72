-- The report of a history: what each terminal shows, the states of the VCPUs, and the events.
use Rattle.std.specs.Prelude.{◌≡◌, ℕ, ◌==◌, Bool, false, if◌then◌else◌, List, [], ◌∷◌, ◌++◌, filter, length, codes}
use Rattle.std.specs.Fmt.{decimal}
use Rattle.std.specs.List.{flat_map}
use Rattle.hv_event.specs.declared.event.ActorId.{ActorId}
use Rattle.hv_event.specs.declared.event.ActorId.TheVariants.{Hart, Terminal}
use Rattle.hv_event.specs.declared.event.Event.{Event}
use Rattle.hv_event.specs.Line.{event_text}
use Rattle.hv_model.specs.Origin.{Origin, terminals}
use Rattle.hv_model.specs.Legal.{session_at_start}
use Rattle.hv_model.specs.States.{states_text}
use Rattle.hv_model.specs.Transcript.{line, Telling, IsTranscript, asked_among}

-- Whether an actor is this terminal.
abbrev pub is_terminal : ℕ → ActorId → Bool
is_terminal t (Terminal u) = t == u
is_terminal t (Hart h) = Bool.false

-- A text with a title before it, and nothing where there is no text.
abbrev pub titled : List ℕ → List ℕ → List ℕ
titled title [] = []
titled title (b ∷ bs) = title ++ b ∷ bs

-- The events of a terminal.
abbrev pub events_of : ℕ → List Event → List Event
events_of t H = filter (λ e. is_terminal t e.actor) H

-- Nothing is told of a terminal at the start.
abbrev pub told_at_start : Origin → ℕ → Telling
told_at_start O t = record { session = session_at_start O t; changed = 0 }

-- Of some terminals, these are the transcripts.
abbrev pub AreTranscripts : Origin → List Event → List ℕ → List (List ℕ) → Type 0
AreTranscripts O H [] [] = Unit {0}
AreTranscripts O H (t ∷ ts) (text ∷ texts) =
    IsTranscript O.opening.plans (told_at_start O t) (asked_among (events_of t H)) text × AreTranscripts O H ts texts
AreTranscripts O H ts texts = ⊥

-- A terminal that began a command has a title and its transcript.
abbrev pub terminals_text : List ℕ → List (List ℕ) → List ℕ
terminals_text (t ∷ ts) (text ∷ texts) = titled (line (codes "term " ++ decimal t)) text ++ terminals_text ts texts
terminals_text ts texts = []

-- The run's order is named by its word.
abbrev pub order_text : Bool → List ℕ
order_text threads = if threads then codes "threads" else codes "seq"

-- The first two lines: the format's version, and what was run.
abbrev pub heading : Origin → Bool → List ℕ
heading O threads =
    line (codes "xvsim 1")
    ++ line (codes "harts " ++ decimal O.opening.harts ++ codes " turns " ++ decimal O.opening.turns ++ codes " order " ++ order_text threads)

-- A line for each event.
abbrev pub history_text : List Event → List ℕ
history_text H = line (codes "history") ++ flat_map (λ e. line (event_text e)) H

-- A report with these transcripts: the heading, the terminals, the states, the history unless it is brief, and the
-- number of events.
abbrev pub report_with : List (List ℕ) → Origin → List Event → Bool → Bool → List ℕ
report_with texts O H threads brief =
    heading O threads
    ++ terminals_text terminals texts
    ++ states_text brief H
    ++ (if brief then [] else history_text H)
    ++ line (codes "end " ++ decimal (length H))

-- A text is the report of a history.
pub record IsReport (O : Origin) (H : List Event) (threads brief : Bool) (text : List ℕ) : Type 0 where
  pub transcripts : List (List ℕ)
  pub shown : AreTranscripts O H terminals transcripts
  pub text_is : text ≡ report_with transcripts O H threads brief
