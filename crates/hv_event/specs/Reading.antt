-- What a line is read as.
use Rattle.std.specs.Prelude.{◌≡◌, ◌≢◌, ℕ, List, Result, Ok, Err, MatchResult}
use Rattle.hv_event.specs.declared.event.Event.{Event}
use Rattle.hv_event.specs.declared.refusal.LineRefusal.{LineRefusal}
use Rattle.hv_event.specs.declared.refusal.LineRefusal.TheVariants.{BadLine, Memory}
use Rattle.hv_event.specs.Line.{event_text}
use Rattle.hv_event.specs.Words.{event_words}
use Rattle.hv_event.specs.Written.{IsWritten}

-- The words are this event's.
abbrev pub AreEventWords : List (List ℕ) → Event → Type 0
AreEventWords words e = IsWritten e × (words ≡ event_words e)

-- This holds, unless memory ran out.
abbrev pub Because : LineRefusal → Type 0 → Type 0
Because BadLine reason = reason
Because (Memory e) reason = Unit {0}

-- Words give the event whose words they are, or are refused where there is none.
abbrev pub AreRead : List (List ℕ) → Result Event LineRefusal → Type 0
AreRead words r = MatchResult r (λ e. AreEventWords words e) (λ e. Because e ((event : Event) → AreEventWords words event → ⊥))

-- What was read is this, unless memory ran out.
abbrev pub IsUnlessMemory : Result Event LineRefusal → Result Event LineRefusal → Type 0
IsUnlessMemory (Ok found) wanted = Ok found ≡ wanted
IsUnlessMemory (Err BadLine) wanted = Err BadLine ≡ wanted
IsUnlessMemory (Err (Memory e)) wanted = Unit {0}

-- A line is that of no written event.
abbrev pub IsNoEventLine : List ℕ → Type 0
IsNoEventLine line = (e : Event) → IsWritten e → line ≢ event_text e
