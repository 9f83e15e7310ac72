-- What an actor does next, in the states that legal histories lead to, and what comes of a run in rounds.
use Rattle.std.specs.Prelude.{◌≡◌, ℕ, suc, ◌<◌, Bool, false, List, Some}
use Rattle.hv_event.specs.declared.event.ActorId.TheVariants.{Hart, Terminal}
use Rattle.hv_event.specs.declared.event.CellId.TheVariants as component
use Rattle.hv_event.specs.declared.event.Event.{Event}
use Rattle.hv_kinds.specs.declared.state.State.TheVariants.{Running}
use Rattle.hv_machine.specs.Machine.{State, MayHappen}
use Rattle.hv_model.specs.Cell.{Actor, Component}
use Rattle.hv_model.specs.declared.entry.Entry.{Entry}
use Rattle.hv_model.specs.Legal.{Leads}
use Rattle.hv_model.specs.Origin.{Origin}
use Rattle.hv_model.specs.Report.{IsReport}
use Rattle.hv_model.specs.Rounds.{IsRounds, has_ended}
use Rattle.hv_model.specs.Rules.{machine}
use Rattle.hv_model.specs.Terminal.{owes_nothing}
use Rattle.hv_rules.specs.Hart.{slot_of}
use Rattle.hv_order_laws.specs.Orders.{ArePlansGood}
use Rattle.hv_window_laws.specs.Windows.{birth_in}

-- A state is reached where a legal history leads to it from an opening whose plans are good.
pub record IsReached (O : Origin) (s : State (machine O)) : Type 0 where
  pub history : List Event
  pub leads : Leads O history s
  pub good : ArePlansGood O

-- A hart has one next event at most.
abbrev pub HartHasOneNextEvent : Type 0
HartHasOneNextEvent =
    (O : Origin) (s : State (machine O)) → IsReached O s → (h : ℕ) (e f : Entry)
    → e.event.actor ≡ Hart h → f.event.actor ≡ Hart h
    → MayHappen (machine O) s e → MayHappen (machine O) s f → e ≡ f

-- So has any actor.
abbrev pub ActorHasOneNextEvent : Type 0
ActorHasOneNextEvent =
    (O : Origin) (s : State (machine O)) → IsReached O s → (e f : Entry)
    → e.event.actor ≡ f.event.actor
    → MayHappen (machine O) s e → MayHappen (machine O) s f → e ≡ f

-- A run in rounds from such an opening has one history.
abbrev pub RoundsHaveOneHistory : Type 0
RoundsHaveOneHistory =
    (O : Origin) → ArePlansGood O → (H K : List Event) → IsRounds O H → IsRounds O K → H ≡ K

-- And so it has one report.
abbrev pub RoundsHaveOneReport : Type 0
RoundsHaveOneReport =
    (O : Origin) → ArePlansGood O → (H K : List Event) (threads brief : Bool) (text other : List ℕ) → IsRounds O H → IsRounds O K
    → IsReport O H threads brief text → IsReport O K threads brief other → text ≡ other

-- A VCPU of a guest that runs is of the guest that the directory has in its slot.
abbrev pub RunningIsOfItsGuest : (O : Origin) → State (machine O) → Type 0
RunningIsOfItsGuest O s =
    (v h : ℕ) → (s (Component (component.Vcpu (suc v)))).value.state ≡ Running h
    → birth_in (s (Component component.Dir)).value (slot_of (suc v))
    ≡ Some (s (Component (component.Vcpu (suc v)))).value.birth

abbrev pub RunningVcpusAreOfTheirGuests : Type 0
RunningVcpusAreOfTheirGuests =
    (O : Origin) (s : State (machine O)) → IsReached O s → RunningIsOfItsGuest O s

-- A hart that is there has a next event unless it is at its end.
abbrev pub HartHasANextEvent : Type 0
HartHasANextEvent =
    (O : Origin) (s : State (machine O)) → IsReached O s → (h : ℕ)
    → h < O.opening.harts → has_ended O s (Hart h) ≡ false
    → (e : Entry) × (e.event.actor ≡ Hart h) × MayHappen (machine O) s e

-- A terminal that owes interrupt steps has a next event.
abbrev pub OwingTerminalHasANextEvent : Type 0
OwingTerminalHasANextEvent =
    (O : Origin) (s : State (machine O)) → IsReached O s → (t : ℕ)
    → owes_nothing (s (Actor (Terminal t))).value.owed ≡ false
    → (e : Entry) × (e.event.actor ≡ Terminal t) × MayHappen (machine O) s e
