-- Which region answers a fetch or an access of a guest: the one to which the window leads that holds it.
use Rattle.std.specs.Prelude.{◌≡◌, ℕ, ◌≤◌, Bool, true, false, None, Some, is_some}
use Rattle.hv_body.specs.declared.place.Answer.{Answer}
use Rattle.hv_body.specs.declared.place.Answer.TheVariants.{NotHere}
use Rattle.hv_rules.specs.Body.{fetch_from, answer_to}
use Rattle.hv_rules.specs.Space.{reached}
use Rattle.hv_step.specs.declared.step.Access.{Access}
use Rattle.hv_window_laws.specs.Guests.{Guests}
use Rattle.hv_window_laws.specs.Run.{IsReached}
use Rattle.hv_window_laws.specs.Windows.{birth_in, if_leads}

-- A region answers an access, if only to deny it.
abbrev pub is_here : Answer → Bool
is_here NotHere = false
is_here answer = true

-- A fetch is answered by one region of a slot at most.
abbrev pub FetchIsAnsweredOnce : Type 0
FetchIsAnsweredOnce =
    (count : ℕ) (guests : Guests) → IsReached count guests → (slot one other birth pc : ℕ)
    → is_here (fetch_from (guests.bodies slot one) birth pc) ≡ true
    → is_here (fetch_from (guests.bodies slot other) birth pc) ≡ true → one ≡ other

-- So is an access.
abbrev pub AccessIsAnsweredOnce : Type 0
AccessIsAnsweredOnce =
    (count : ℕ) (guests : Guests) → IsReached count guests → (slot one other : ℕ) (access : Access)
    → 1 ≤ access.size
    → is_here (answer_to (guests.bodies slot one) access) ≡ true
    → is_here (answer_to (guests.bodies slot other) access) ≡ true → one ≡ other

-- Where a space agrees to the fault of a fetch, no region answers it.
abbrev pub NoFetchIsAnsweredAtAFault : Type 0
NoFetchIsAnsweredAtAFault =
    (count : ℕ) (guests : Guests) → IsReached count guests → (slot row birth pc : ℕ)
    → reached (guests.spaces slot).windows pc 4 ≡ None
    → is_here (fetch_from (guests.bodies slot row) birth pc) ≡ false

-- The same of an access.
abbrev pub NoAccessIsAnsweredAtAFault : Type 0
NoAccessIsAnsweredAtAFault =
    (count : ℕ) (guests : Guests) → IsReached count guests → (slot row : ℕ) (access : Access)
    → 1 ≤ access.size → reached (guests.spaces slot).windows access.address access.size ≡ None
    → is_here (answer_to (guests.bodies slot row) access) ≡ false

-- A region answers a fetch of the guest that has the slot exactly where a window holds the instruction and leads there.
abbrev pub FetchIsAnsweredInAWindow : Type 0
FetchIsAnsweredInAWindow =
    (count : ℕ) (guests : Guests) → IsReached count guests → (slot row birth pc : ℕ)
    → birth_in guests.dir slot ≡ Some birth
    → is_here (fetch_from (guests.bodies slot row) birth pc)
    ≡ is_some (if_leads row (reached (guests.spaces slot).windows pc 4))

-- The same of an access.
abbrev pub AccessIsAnsweredInAWindow : Type 0
AccessIsAnsweredInAWindow =
    (count : ℕ) (guests : Guests) → IsReached count guests → (slot row : ℕ) (access : Access)
    → birth_in guests.dir slot ≡ Some access.generation.birth → 1 ≤ access.size
    → is_here (answer_to (guests.bodies slot row) access)
    ≡ is_some (if_leads row (reached (guests.spaces slot).windows access.address access.size))
