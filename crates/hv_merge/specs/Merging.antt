-- Merging: the logs of several actors as one list, in order by stamp.
-- An actor's log is the list of the events that it made, with rising stamps.
use Rattle.std.specs.Prelude.{◌≡◌, ◌≢◌, ℕ, ◌+◌, ◌^◌, ◌==◌, ◌<◌, ◌⊎◌, Bool, false, List, [], ◌∷◌, filter}
use Rattle.std.specs.List.{AllByRecursion, flat_map}
use Rattle.hv_event.specs.declared.event.ActorId.{ActorId}
use Rattle.hv_event.specs.declared.event.ActorId.TheVariants.{Hart, Terminal}
use Rattle.hv_event.specs.declared.event.Event.{Event}

-- Among events of one stamp those of harts come first, then those of terminals, each kind by number.
abbrev pub rank_of : ActorId → ℕ
rank_of (Hart h) = h
rank_of (Terminal t) = 2 ^ 8 + t

-- Two actors are the same where their kinds and their numbers are.
abbrev pub same_actor : ActorId → ActorId → Bool
same_actor (Hart g) (Hart h) = g == h
same_actor (Terminal t) (Terminal u) = t == u
same_actor (Hart h) (Terminal t) = false
same_actor (Terminal t) (Hart h) = false

-- One event stands before another by its stamp, and at the same stamp by its actor's rank.
abbrev pub IsBefore : Event → Event → Type 0
IsBefore e f = (e.stamp < f.stamp) ⊎ ((e.stamp ≡ f.stamp) × (rank_of e.actor < rank_of f.actor))

-- A list rises where each event stands before all that follow it.
abbrev pub IsRising : List Event → Type 0
IsRising [] = Unit {0}
IsRising (e ∷ es) = AllByRecursion (IsBefore e) es × IsRising es

-- The events of an actor are those that it made, in their order.
abbrev pub events_of : ActorId → List Event → List Event
events_of a es = filter (λ e. same_actor a e.actor) es

-- A list is the merge of logs where it rises and has of each actor exactly the events that the logs have.
pub record IsMergeOf (logs : List (List Event)) (all : List Event) : Type 0 where
  pub rising : IsRising all
  pub whole : (a : ActorId) → events_of a all ≡ flat_map (events_of a) logs

-- One event is followed by another where the same actor made this one at a later stamp.
abbrev pub IsFollowedBy : Event → Event → Type 0
IsFollowedBy e f = (e.actor ≡ f.actor) × (e.stamp < f.stamp)

-- A log has events of one actor alone, and their stamps rise.
abbrev pub IsLog : List Event → Type 0
IsLog [] = Unit {0}
IsLog (e ∷ es) = AllByRecursion (IsFollowedBy e) es × IsLog es

-- Two logs have different actors where no event of the one has the actor of an event of the other.
abbrev pub HaveDifferentActors : List Event → List Event → Type 0
HaveDifferentActors one other = AllByRecursion (λ e. AllByRecursion (λ f. e.actor ≢ f.actor) other) one

-- Lists are the logs of actors where each is a log, and has another actor than all that follow it.
abbrev pub AreLogs : List (List Event) → Type 0
AreLogs [] = Unit {0}
AreLogs (log ∷ logs) = IsLog log × AllByRecursion (HaveDifferentActors log) logs × AreLogs logs

-- Two lists are apart where no actor has events in both.
abbrev pub AreApart : List Event → List Event → Type 0
AreApart one other = (a : ActorId) → (events_of a one ≡ []) ⊎ (events_of a other ≡ [])

-- One list begins first where the other is empty, or its first event stands before the other's.
abbrev pub BeginsFirst : List Event → List Event → Type 0
BeginsFirst one [] = Unit {0}
BeginsFirst [] (f ∷ fs) = ⊥
BeginsFirst (e ∷ es) (f ∷ fs) = IsBefore e f

-- An event is taken from the one list where this begins first, and the other list stays as it is.
pub record IsTakenFrom (one other : List Event) (e : Event) (rest others : List Event) : Type 0 where
  pub first : BeginsFirst one other
  pub taken : one ≡ e ∷ rest
  pub kept : others ≡ other
