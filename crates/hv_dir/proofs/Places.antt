-- What stays of the places of the slots when one of them changes.
use Rattle.std.proofs.Common.{◌≡◌, ℕ, zero, suc, ◌<◌, Bool, IfSome, position, arith, List, [], ◌∷◌, length, sym, refl, ap, ◌∙◌, Option, Some, None, slice_get, set}
use Rattle.std.proofs.lemmas.List.{length-set}
use Rattle.std.proofs.lemmas.Bool.Decides.{nat_tests}
use Rattle.std.proofs.lemmas.Option.{same_Some}
use Rattle.hv_text.specs.declared.limits.TheConstants.{SLOTS}
use Rattle.hv_dir.specs.declared.entry.Entry.{Entry}
use Rattle.hv_dir.specs.Directory.{AreEntries}

-- what stands at an index after a write is what was written there, or stood there
pub set_cases : {X : Type 0} {P : Type 0} (xs : List X) (i j : ℕ) (y z : X) → slice_get (set xs i y) j ≡ Some z → (i ≡ j → y ≡ z → P) → (slice_get xs j ≡ Some z → P) → P
set_cases [] i j y z e new old = old e
set_cases (x ∷ xs) zero zero y z e new old = new refl (same_Some y z e)
set_cases (x ∷ xs) zero (suc j) y z e new old = old e
set_cases (x ∷ xs) (suc i) zero y z e new old = old e
set_cases (x ∷ xs) (suc i) (suc j) y z e new old = set_cases xs i j y z e (λ same is. new (ap suc same) is) old

-- an entry that is put at the place of its slot keeps the rule
pub entries_set : (entries : List (Option Entry)) (k : ℕ) (place : Option Entry) → AreEntries entries → ((entry : Entry) → place ≡ Some entry → entry.slot ≡ k) → AreEntries (set entries k place)
entries_set entries k place are put = record {
  long = length-set entries k place ∙ are.long;
  placed = λ slot entry there. set_cases entries k slot place (Some entry) there (λ same is. put entry is ∙ same) (λ was. are.placed slot entry was);
}

-- a place that a search finds is one of the list
pub position_within : {A : Type 0} (p : A → Bool) (xs : List A) (k : ℕ) → position p xs ≡ Some k → k < length xs
position_within p xs k e = grind (arith, nat_tests)

-- a slot that a search finds is one of the board
pub slot_within : (p : Option Entry → Bool) (entries : List (Option Entry)) (found : Option ℕ) → AreEntries entries → found ≡ position p entries → IfSome found (λ slot. slot < SLOTS)
slot_within p entries None are is = tt
slot_within p entries (Some slot) are is = let inside = position_within p entries slot (sym is) in let long = are.long in omega arith

-- the entry that stands at a place has the slot of that place
pub slot_of_entry : (entries : List (Option Entry)) (k : ℕ) (entry : Entry) → AreEntries entries → k < SLOTS → slice_get entries k ≡ Some (Some entry) → entry.slot < SLOTS
slot_of_entry entries k entry are within there = let same = are.placed k entry there in omega arith
