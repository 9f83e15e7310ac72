-- A history lock and its handles, as contracts see them.
use Rattle.std.specs.Prelude.{◌≡◌, ℕ, ◌<◌, Bool, false, List, length, drop, slice_get, Option, Some}
use Rattle.std.specs.List.{AllByRecursion}
use Rattle.atomic_table.specs.Seated.{TableId}
use Rattle.hv_turn.specs.History.{IsLater}

-- Of a lock: which it is, and how many handles it was opened with.
pub record TurnView : Type 0 where
  pub id : TableId
  pub passes : ℕ

-- Of a handle: its lock, its number, whether it has acquired the lock, and the history that it has seen.
pub record PassView (E : Type 0) : Type 0 where
  pub turn : TableId
  pub number : ℕ
  pub inside : Bool
  pub seen : List E

-- A new handle is outside, and has seen the history that the lock was opened with.
abbrev pub new_pass : {E : Type 0} → TableId → ℕ → List E → PassView E
new_pass id number opening = record { turn = id; number = number; inside = false; seen = opening }

-- The handles of a lock as it is opened are new, as many as it has, and numbered in their order.
pub record AreDealt {E : Type 0} (turn : TurnView) (opening : List E) (passes : List (PassView E)) : Type 0 where
  pub count : length passes ≡ turn.passes
  pub each : (k : ℕ) (p : PassView E) → slice_get passes k ≡ Some p → p ≡ new_pass turn.id k opening

-- It is the handle of this number, and outside.
pub record IsOutside {E : Type 0} (id : TableId) (k : ℕ) (pass : PassView E) : Type 0 where
  pub turn : pass.turn ≡ id
  pub number : pass.number ≡ k
  pub outside : pass.inside ≡ false

-- These are all handles of a lock, in the order of their numbers, and each is outside.
pub record AreGathered {E : Type 0} (turn : TurnView) (passes : List (PassView E)) : Type 0 where
  pub count : length passes ≡ turn.passes
  pub each : (k : ℕ) (p : PassView E) → slice_get passes k ≡ Some p → IsOutside turn.id k p

-- An entry names one of n handles.
abbrev pub IsNamedBelow : {E : Type 0} → (E → Option ℕ) → ℕ → E → Type 0
IsNamedBelow names n e = (number : ℕ) × (names e ≡ Some number) × (number < n)

-- A history is that of all handles where it goes on from what each has seen, and each entry but the first names one.
pub record IsEnded {E : Type 0} (names : E → Option ℕ) (passes : List (PassView E)) (history : List E) : Type 0 where
  pub each : (k : ℕ) (p : PassView E) → slice_get passes k ≡ Some p → IsLater names p.number p.seen history
  pub named : AllByRecursion (IsNamedBelow names (length passes)) (drop 1 history)
