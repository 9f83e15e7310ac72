-- The guests that a state of the abstract machine has, and legal histories whose events are in order.
use Rattle.std.specs.Prelude.{ℕ, List, [], ◌∷◌}
use Rattle.hv_event.specs.declared.event.CellId.TheVariants.{Dir, Shelf, Space, Body}
use Rattle.hv_event.specs.declared.event.Event.{Event}
use Rattle.hv_machine.specs.Machine.{State, next_state}
use Rattle.hv_model.specs.Cell.{Component}
use Rattle.hv_model.specs.declared.entry.Entry.{Entry}
use Rattle.hv_model.specs.Legal.{Leads, begun, start}
use Rattle.hv_model.specs.Origin.{Origin}
use Rattle.hv_model.specs.Rules.{machine}
use Rattle.hv_window_laws.specs.Guests.{Guests, IsInOrder}
use Rattle.hv_window_laws.specs.Windows.{WindowsMatch}

abbrev pub guests_of : (O : Origin) → State (machine O) → Guests
guests_of O s = record {
  dir = (s (Component Dir)).value;
  shelf = (s (Component Shelf)).value;
  spaces = λ slot. (s (Component (Space slot))).value;
  bodies = λ slot row. (s (Component (Body slot row))).value;
}

-- Each event is in order, in the state in which it is made.
abbrev pub AreInOrder : (O : Origin) → State (machine O) → List Entry → Type 0
AreInOrder O s [] = Unit {0}
AreInOrder O s (e ∷ es) =
    IsInOrder (guests_of O s) e.event.step e.carry × AreInOrder O (next_state (machine O) s e) es

-- In each state that a legal history leads to whose events are in order, windows match regions.
abbrev pub LegalHistoriesMatch : Type 0
LegalHistoriesMatch =
    (O : Origin) (H : List Event) (s : State (machine O)) (leads : Leads O H s)
    → AreInOrder O (start O) leads.boot → AreInOrder O (begun O leads.boot) leads.later
    → (slot : ℕ) → WindowsMatch (guests_of O s) slot
