-- The table beneath a history lock: the seats' views, the table's rule, and what each step does.
-- No public clause uses it; the view of a handle is made of its seat here.
use Rattle.std.specs.Prelude.{◌≡◌, ◌≢◌, ℕ, zero, suc, ◌<◌, Bool, true, false, List, [], ◌∷◌, ◌++◌, length, slice_index, Option, Some, None}
use mathlib.Core.Option.{some}
use lib.ListN.{get_elem?}
use Rattle.atomic_table.specs.Table.{State, Me, Step}
use Rattle.atomic_table.specs.Seated.{TableId}
use Rattle.hv_turn.specs.declared.rule.PassState.{PassState}
use Rattle.hv_turn.specs.declared.rule.SeatView.{SeatView}
use Rattle.hv_turn.specs.History.{IsLater}
use Rattle.hv_turn.specs.Passes.{PassView, IsNamedBelow}

module _ {E : Type 0} where
  -- A list begins with another.
  abbrev pub StartsWith : List E → List E → Type 0
  StartsWith list front = (rest : List E) × (list ≡ front ++ rest)

  -- What the handle of this number knows.
  abbrev pub pass_state : ℕ → List E → PassState E
  pass_state number seen = record { number = number; seen = seen }

  -- What a handle knows once it has seen this history.
  abbrev pub having_seen : List E → PassState E → PassState E
  having_seen history p = pass_state p.number history

  -- A seat with these handles.
  abbrev pub seat_view : Bool → List (PassState E) → SeatView E
  seat_view inside passes = record { inside = inside; passes = passes }

  -- A seat with one handle.
  abbrev pub one_pass : Bool → PassState E → SeatView E
  one_pass inside p = seat_view inside (p ∷ [])

  -- The handles from a number on, n of them, which have seen this history.
  abbrev pub passes_from : ℕ → ℕ → List E → List (PassState E)
  passes_from number zero seen = []
  passes_from number (suc n) seen = pass_state number seen ∷ passes_from (suc number) n seen

  -- A seat with all of them, outside.
  abbrev pub all_from : ℕ → ℕ → List E → SeatView E
  all_from number n seen = seat_view false (passes_from number n seen)

  -- The first handle of a seat.
  abbrev pub first_pass : List (PassState E) → PassState E
  first_pass [] = pass_state 0 []
  first_pass (p ∷ ps) = p

  -- What the first handle of a seat has seen.
  abbrev pub seen_by : SeatView E → List E
  seen_by view = (first_pass view.passes).seen

  abbrev first_only : List (PassState E) → List (PassState E)
  first_only [] = []
  first_only (p ∷ ps) = p ∷ []

  abbrev but_first : List (PassState E) → List (PassState E)
  but_first [] = []
  but_first (p ∷ ps) = ps

  -- A split gives the first handle of a seat to the new seat, and leaves the others.
  abbrev pub first_alone : SeatView E → SeatView E
  first_alone view = seat_view false (first_only view.passes)

  abbrev pub without_first : SeatView E → SeatView E
  without_first view = seat_view false (but_first view.passes)

  -- A join gives one seat the handles of both, and leaves the other none.
  abbrev pub joined : SeatView E → SeatView E → SeatView E
  joined view other = seat_view false (view.passes ++ other.passes)

  abbrev pub spent : SeatView E
  spent = seat_view false []

module _ {E : Type 0} (names : E → Option ℕ) (n : ℕ) (history : List E) (owner : ℕ → ℕ) where
  -- A handle lies in its owner's seat, and the history goes on from what it has seen.
  pub record IsPassAt (seat : ℕ) (p : PassState E) : Type 0 where
    pub below : p.number < n
    pub later : IsLater names p.number p.seen history
    pub owned : owner p.number ≡ seat

  -- A seat knows the truth of its handles, and one that is inside holds the lock and has seen the whole history.
  pub record IsSeatAt (word holder seat : ℕ) (view : SeatView E) : Type 0 where
    pub inside : view.inside ≡ true
        → (word ≡ 1) × (seat ≡ holder) × ((p : PassState E) × (view ≡ one_pass true p) × (p.seen ≡ history))
    pub each : (k : ℕ) (p : PassState E) → get_elem? view.passes k ≡ some p → IsPassAt seat p

-- The rule. The word is 0 while the value lies in the slot, and 1 while one seat, the holder, is inside.
-- The history is the value's while it lies there, and else what the holder has seen.
pub record KeepsRule {T E : Type 0} (entries : T → List E) (names : E → Option ℕ) (n : ℕ)
    (s : State (Option T) (SeatView E)) : Type 0 where
  pub history : List E
  pub holder : ℕ
  -- the seat of each handle
  pub owner : ℕ → ℕ
  pub wide : length s.words ≡ 1
  pub free : slice_index s.words 0 ≡ 0
      → (v : T) × (get_elem? s.homes 0 ≡ some (some (Some v))) × (entries v ≡ history)
  pub taken : slice_index s.words 0 ≢ 0
      → (slice_index s.words 0 ≡ 1)
      × ((view : SeatView E) × (get_elem? s.views holder ≡ some view) × (view.inside ≡ true))
  pub each_seat : (seat : ℕ) (view : SeatView E) → get_elem? s.views seat ≡ some view
      → IsSeatAt names n history owner (slice_index s.words 0) holder seat view
  pub named : (i : ℕ) (e : E) → get_elem? history (suc i) ≡ some e → IsNamedBelow names n e

-- The slots that a seat holds: while it is inside, the one slot, whose value is with the guard.
abbrev pub slots_of : {T : Type 0} → Bool → List (ℕ × Option T)
slots_of true = (0, None) ∷ []
slots_of false = []

module _ {T E : Type 0} where
  -- What contracts see of a handle.
  abbrev pub pass_view : TableId → Me (Option T) (SeatView E) → PassView E
  pass_view id me =
      let p = first_pass me.0.passes in record { turn = id; number = p.number; inside = me.0.inside; seen = p.seen }

  -- A handle's seat has that handle alone, and holds the slot while it is inside.
  abbrev pub IsPass : Me (Option T) (SeatView E) → Type 0
  IsPass me = me ≡ (one_pass me.0.inside (first_pass me.0.passes), slots_of me.0.inside)

module _ {T E : Type 0} (entries : T → List E) where
  -- The step of acquiring: where the word was 0, the handle is inside, has the value, and has seen its history.
  abbrev pub acquired : (E → Option ℕ) → Step (Option T) → Me (Option T) (SeatView E) → ℕ
      → Me (Option T) (SeatView E) → Type 0
  acquired names step old word new =
      (word ≢ 0 → new ≡ old)
      × (word ≡ 0 → (p : PassState E) → old ≡ (one_pass false p, [])
      → (v : T) × (new ≡ (one_pass true (having_seen (entries v) p), (0, Some v) ∷ []))
      × IsLater names p.number p.seen (entries v))

  -- The step of releasing: the handle is outside, and has seen the history of the value that it gave back.
  abbrev pub released : Step (Option T) → Me (Option T) (SeatView E) → ℕ → Me (Option T) (SeatView E) → Type 0
  released step old word new =
      (p : PassState E) (v : T) → old ≡ (one_pass true p, (0, Some v) ∷ [])
      → new ≡ (one_pass false (having_seen (entries v) p), [])

-- Each of these handles is one of the lock, and outside.
abbrev pub AreOutside : {E : Type 0} → TableId → List (PassView E) → Type 0
AreOutside id [] = Unit {0}
AreOutside id (p ∷ ps) = (p.turn ≡ id) × (p.inside ≡ false) × AreOutside id ps

-- What a handle knows, of what contracts see of it.
abbrev pub state_of : {E : Type 0} → PassView E → PassState E
state_of p = pass_state p.number p.seen

-- Each of these handles is among those of a seat.
abbrev pub Covers : {E : Type 0} → List (PassState E) → List (PassView E) → Type 0
Covers all [] = Unit {0}
Covers all (p ∷ ps) = ((i : ℕ) × (get_elem? all i ≡ some (state_of p))) × Covers all ps
