-- What is told of a terminal through its events, and its transcript of them.
use Rattle.std.specs.Prelude.{◌≡◌, List, [], ◌∷◌}
use Rattle.hv_event.specs.declared.event.Event.{Event}
use Rattle.hv_model.specs.Plans.{Planned}
use Rattle.hv_model.specs.Session.{Session}
use Rattle.hv_model.specs.Transcript.{IsTranscript, Telling, asked_among, told_after}
use Rattle.hv_transcript.specs.Telling.{TranscriptKept, telling_of}

-- What is told once these events were shown, one after the other.
abbrev pub told_through : List Planned → Telling → List Event → Telling
told_through plans t [] = t
told_through plans t (e ∷ es) = told_through plans (told_after plans t e) es

-- A transcript is that of a terminal's events, which have led its session here: its text is what those showed that were
-- asked for, and it knows what is told after them.
pub record IsTranscriptOf (plans : List Planned) (start : Telling) (events : List Event) (x : TranscriptKept) (s : Session) : Type 0 where
  pub text : IsTranscript plans start (asked_among events) x.text
  pub told : told_through plans start (asked_among events) ≡ telling_of x s
