-- Rounds: each actor that is not at its end makes one step, the harts first and each kind by number.
use Rattle.std.specs.Prelude.{◌≡◌, ◌≤◌, ◌&&◌, Bool, if◌then◌else◌, Option, Some, None, List, [], ◌∷◌, ◌++◌, map}
use Rattle.std.specs.List.{AllByRecursion, range_with_len}
use Rattle.hv_text.specs.declared.limits.TheConstants.{GREATEST_STAMP}
use Rattle.hv_machine.specs.Machine.{State, events_by, next_state}
use Rattle.hv_machine.specs.Merging.{IsMerged}
use Rattle.hv_machine.specs.Phases.{IsTwoPart}
use Rattle.hv_event.specs.declared.event.ActorId.{ActorId}
use Rattle.hv_event.specs.declared.event.ActorId.TheVariants.{Hart, Terminal}
use Rattle.hv_event.specs.declared.event.Event.{Event}
use Rattle.hv_model.specs.Origin.{Origin, terminals}
use Rattle.hv_model.specs.Cell.{Actor, is_actor, rank_of}
use Rattle.hv_model.specs.Entry.{Entry}
use Rattle.hv_model.specs.Session.{has_ended as session_has_ended}
use Rattle.hv_model.specs.Terminal.{TerminalState, owes_nothing, IsAtBootEnd}
use Rattle.hv_model.specs.Rules.{machine}
use Rattle.hv_model.specs.Hart.{hart_has_ended}
use Rattle.hv_model.specs.Legal.{first, start, own_at_start, booted, begun, Legal}

-- Whether a terminal owes nothing, its line is done and no command is left.
abbrev pub terminal_has_ended : TerminalState → Bool
terminal_has_ended t = owes_nothing t.owed && session_has_ended t.session

-- A round goes through the harts and then the terminals, by number.
abbrev pub order_of : Origin → List ActorId
order_of O = map Hart (range_with_len 0 O.opening.harts) ++ map Terminal terminals

-- The first that is not at its end, and those that come after it.
abbrev pub first_of : (ActorId → Bool) → List ActorId → Option (ActorId × List ActorId)
first_of ended [] = None
first_of ended (a ∷ actors) = if ended a then first_of ended actors else Some (a, actors)

-- The one that was found, or else another.
abbrev pub first_or : Option (ActorId × List ActorId) → Option (ActorId × List ActorId) → Option (ActorId × List ActorId)
first_or None other = other
first_or (Some found) other = Some found

module _ (O : Origin) where
  -- An actor has ended where its program asks for nothing more.
  abbrev pub has_ended : State (machine O) → ActorId → Bool
  has_ended s (Hart h) = hart_has_ended O.opening.turns (s (Actor (Hart h))).value
  has_ended s (Terminal t) = terminal_has_ended (s (Actor (Terminal t))).value

  -- Whose turn it is: the first of those that are left in this round, or else the first of a new one.
  abbrev pub turn_of : State (machine O) → List ActorId → Option (ActorId × List ActorId)
  turn_of s left = first_or (first_of (has_ended s) left) (first_of (has_ended s) (order_of O))

  -- The events are made in turn until every actor is at its end.
  abbrev pub TakesTurns : State (machine O) → List ActorId → List Entry → Type 0
  TakesTurns s left [] = turn_of s left ≡ None
  TakesTurns s left (e ∷ es) =
      (later : List ActorId) × (turn_of s left ≡ Some (e.event.actor, later)) × TakesTurns (next_state (machine O) s e) later es

  -- A history is made in rounds: the boot script, then the events of `made` in the order in which they were made, and all in rising order.
  pub record IsRounds (H : List Event) : Type 0 where
    pub boot : List Entry
    pub made : List Entry
    pub all : List Entry
    pub parts : IsTwoPart (machine O) is_actor first (start O) boot made
    pub boot_ended : IsAtBootEnd (booted O boot first).value
    pub within : (booted O boot first).value.session.own ≡ own_at_start O 0
    pub turns : TakesTurns (begun O boot) [] made
    pub merged : IsMerged (machine O) rank_of (λ a. events_by (machine O) a (boot ++ made)) all
    pub events : map (λ e. e.event) all ≡ H
    pub in_range : AllByRecursion (λ e. e.event.stamp ≤ GREATEST_STAMP) all

-- A history made in rounds is legal.
abbrev pub RoundsAreLegal : Type 0
RoundsAreLegal = (O : Origin) (H : List Event) → IsRounds O H → Legal O H
