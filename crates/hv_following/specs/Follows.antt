-- An actor's log beside what it has seen of each cell.
use Rattle.std.specs.Prelude.{◌≡◌, ℕ, ◌+◌, ◌<◌, true, if◌then◌else◌, List, [], ◌∷◌, ◌++◌, map}
use Rattle.std.specs.List.{AllByRecursion}
use Rattle.hv_machine.specs.Machine.{Machine, State, greatest, touches, events_at, events_by}
use Rattle.hv_machine.specs.Merging.{IsKept, stamp_before}

module _ (m : Machine) where
  -- Entries are later for an actor where they go on, and it made none of those that follow.
  pub record IsLater (a : m.Cell) (es fs : List m.Event) : Type 0 where
    pub more : List m.Event
    pub longer : fs ≡ es ++ more
    pub others : events_by m a more ≡ []

  -- The last stamp of some events is the first one where there are none.
  abbrev pub last_stamp : ℕ → List m.Event → ℕ
  last_stamp first [] = first
  last_stamp first (e ∷ es) = last_stamp (m.stamp e) es

  module _ (first : m.Cell → ℕ) where
    -- An event has the next stamp by what was seen of the cells that it touches.
    abbrev pub IsNextBy : (m.Cell → List m.Event) → m.Event → Type 0
    IsNextBy seen e =
        m.stamp e ≡ greatest (map (λ x. stamp_before m.rules (first x) (seen x) (m.stamp e)) (m.footprint e)) + 1

    -- An actor's log follows what it has seen: its own events are seen just where they touch, and each has the next stamp.
    pub record Follows (a : m.Cell) (log : List m.Event) (seen : m.Cell → List m.Event) : Type 0 where
      pub shared : (x : m.Cell) → events_by m a (seen x) ≡ events_at m x log
      pub stamped : AllByRecursion (IsNextBy seen) log

    -- One event more: it was made where this was seen before it, and each cell that it touches has it last.
    pub record IsMadeAfter (a : m.Cell) (e : m.Event) (before after : m.Cell → List m.Event) : Type 0 where
      pub by : m.actor e ≡ a
      pub stamp : m.stamp e ≡ greatest (map (λ x. last_stamp (first x) (before x)) (m.footprint e)) + 1
      pub below : (x : m.Cell) → touches m x e ≡ true → AllByRecursion (λ f. m.stamp f < m.stamp e) (before x)
      pub taken : (x : m.Cell) → after x ≡ (if touches m x e then before x ++ e ∷ [] else before x)

  -- What is known at the end: every cell kept its entries, and each actor's log follows what it has seen, of which the
  -- entries are later.
  pub record IsClosed (s : State m) (logs entries : m.Cell → List m.Event) (seen : m.Cell → m.Cell → List m.Event) : Type 0 where
    pub kept : (x : m.Cell) → IsKept m.rules x (s x) (entries x)
    pub followed : (a : m.Cell) → Follows (λ x. (s x).stamp) a (logs a) (seen a)
    pub later : (a x : m.Cell) → IsLater a (seen a x) (entries x)
