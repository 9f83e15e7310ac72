-- The cells of a run, and what they mean in the abstract machine.
use Rattle.std.specs.Prelude.{◌≡◌, ◌≢◌, ◌⊎◌, ℕ, ◌<◌, ◌≤◌, max, true, false, Option, Some, None, List, [], ◌∷◌, ◌++◌, length, map, Any, slice_index_or}
use Rattle.std.specs.List.{AllByRecursion}
use Rattle.hv_text.specs.declared.limits.TheConstants.{GREATEST_STAMP}
use Rattle.hv_machine.specs.Machine.{State, state_after, IsRun}
use Rattle.hv_event.specs.declared.event.ActorId.TheVariants.{Hart, Terminal}
use Rattle.hv_event.specs.declared.event.CellId.TheVariants as component
use Rattle.hv_event.specs.declared.event.Event.{Event}
use Rattle.hv_merge.specs.Merging.{IsLog}
use Rattle.hv_model.specs.declared.entry.Entry.{Entry}
use Rattle.hv_model.specs.Origin.{Origin}
use Rattle.hv_model.specs.Cell.{Component, Actor}
use Rattle.hv_model.specs.Plans.{Planned}
use Rattle.hv_model.specs.Session.{has_ended}
use Rattle.hv_model.specs.States.{led_to}
use Rattle.hv_model.specs.Hart.{hart_at_start}
use Rattle.hv_model.specs.Rules.{machine}
use Rattle.hv_model.specs.Report.{events_of, told_at_start}
use Rattle.hv_model.specs.Transcript.{Telling, IsTranscript, told_after, asked_among}
use Rattle.hv_rounds.specs.declared.terminal.Terminal.{Terminal as TerminalCell}
use Rattle.hv_rounds.specs.declared.board.Board.{Board}
use Rattle.hv_rounds.specs.Cells.{session_of, value_of, telling_of, BeginsAt}
use Rattle.hv_rounds.specs.Step.{IsStep, AppendsEvent}

-- the terminal of a number, or d
abbrev pub at : Board → ℕ → TerminalCell → TerminalCell
at b t d = slice_index_or b.terminals.items t d

-- one step of the terminal t: the others stay, and it shows what the event shows
pub record IsBoardStep (b b' : Board) (t : ℕ) (e : Entry) : Type 0 where
  pub step : (d : TerminalCell) → IsStep b.files b'.files (at b t d) (at b' t d) e
  pub shown : (d : TerminalCell) → AppendsEvent (at b t d) e.event (at b t d).shown (at b' t d).shown
  pub others : (u : ℕ) (d : TerminalCell) → u ≢ t → at b' u d ≡ at b u d

-- the board holds a state of the abstract machine
pub record Holds (O : Origin) (s : State (machine O)) (b : Board) : Type 0 where
  pub files : (s (Component component.Files)).value ≡ b.files.tree
  pub files_stamp : (s (Component component.Files)).stamp ≡ b.files.stamp
  pub terminals : (t : ℕ) (d : TerminalCell) → t < 4 → (s (Actor (Terminal t))).value ≡ value_of O.opening.plans (at b t d)
  pub stamps : (t : ℕ) (d : TerminalCell) → t < 4 → (s (Actor (Terminal t))).stamp ≡ (at b t d).stamp
  pub numbers : (t : ℕ) (d : TerminalCell) → t < 4 → (at b t d).number ≡ t
  pub shelf : (s (Component component.Shelf)).value ≡ O.devices
  pub harts : (h : ℕ) → (s (Actor (Hart h))).value ≡ hart_at_start O.opening.harts O.opening.turns h

-- the events of a terminal
abbrev pub own_events : ℕ → List Entry → List Event
own_events t es = events_of t (map (λ e. e.event) es)

-- what is told of a terminal after events
abbrev pub told : List Planned → Telling → List Event → Telling
told plans t [] = t
told plans t (e ∷ es) = told plans (told_after plans t e) es

-- the events of a terminal that its commands ask for
abbrev pub asked_events : ℕ → List Entry → List Event
asked_events t es = asked_among (own_events t es)

-- a terminal has come as far as its events lead and has shown what they show; they are a log up to its stamp
pub record ShownAt (O : Origin) (t : ℕ) (es : List Entry) (x : TerminalCell) : Type 0 where
  pub count : x.count ≡ length (own_events t es)
  pub value : telling_of x ≡ told O.opening.plans (told_at_start O t) (asked_events t es)
  pub shown : IsTranscript O.opening.plans (told_at_start O t) (asked_events t es) x.shown
  pub log : IsLog (own_events t es)
  pub upto : AllByRecursion (λ e. (e.stamp ≤ x.stamp) × (e.actor ≡ Terminal t)) (own_events t es)

-- a stamp is none yet, or that of an event
abbrev pub IsHeld : List Entry → ℕ → Type 0
IsHeld es n = (n ≡ 0) ⊎ Any (λ e. e.event.stamp ≡ n) es

-- an event is one of the four terminals', and changes no VCPU
pub record IsByTerminal (e : Entry) : Type 0 where
  pub number : ℕ
  pub is_one : number < 4
  pub actor : e.event.actor ≡ Terminal number
  pub plain : led_to e.event.actor e.event.step e.event.reply ≡ None

-- what was made leads from a state to the board, with all events before it and these
pub record Goes (O : Origin) (s : State (machine O)) (before made : List Entry) (b : Board) : Type 0 where
  pub run : IsRun (machine O) s made
  pub holds : Holds O (state_after (machine O) s made) b
  pub shown : (t : ℕ) (d : TerminalCell) → t < 4 → ShownAt O t (before ++ made) (at b t d)
  pub in_range : AllByRecursion (λ e. e.event.stamp ≤ GREATEST_STAMP) made
  pub by_terminals : AllByRecursion IsByTerminal made
  pub files_held : IsHeld (before ++ made) b.files.stamp
  pub held : (t : ℕ) (d : TerminalCell) → t < 4 → IsHeld (before ++ made) (at b t d).stamp

-- the last stamp was found by the next step of some terminal, which has not ended
pub record FoundLast (b : Board) (n : ℕ) : Type 0 where
  pub last : n ≡ GREATEST_STAMP
  pub terminal : ℕ
  pub is_one : terminal < 4
  pub left : (d : TerminalCell) → has_ended (session_of (at b terminal d)) ≡ false
  pub found : (d : TerminalCell) → max (at b terminal d).stamp b.files.stamp ≡ n

-- terminals from one number on have ended
abbrev pub EndedFrom : Board → ℕ → Type 0
EndedFrom b from = (k : ℕ) (d : TerminalCell) → from ≤ k → k < 4 → has_ended (session_of (at b k d)) ≡ true

-- the terminal t is the first from one number on that has not ended
pub record OpenFrom (b : Board) (from t : ℕ) : Type 0 where
  pub within : t < 4
  pub low : from ≤ t
  pub open_here : (d : TerminalCell) → has_ended (session_of (at b t d)) ≡ false
  pub before : (k : ℕ) (d : TerminalCell) → from ≤ k → k < t → has_ended (session_of (at b k d)) ≡ true

-- whose turn it is behind the terminals below a number: the first from there on, or else the first of all
abbrev pub IsTurn : Board → ℕ → Option ℕ → Type 0
IsTurn b from None = EndedFrom b from × EndedFrom b 0
IsTurn b from (Some t) = OpenFrom b from t ⊎ (EndedFrom b from × OpenFrom b 0 t)

-- every terminal has the stamp of the first
pub record BeginTogether (b b' : Board) : Type 0 where
  pub files : b'.files ≡ b.files
  pub each : (t : ℕ) (d : TerminalCell) → t < 4 → BeginsAt (at b t d) (at b' t d) (at b 0 d).stamp
