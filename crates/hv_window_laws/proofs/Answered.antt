-- One region answers a fetch or an access, where a window holds it.
use Rattle.std.proofs.Common.{◌≡◌, ℕ, ◌≤◌, Bool, true, false, cond, refl, sym, ap, ◌∙◌, arith, eqb-true, find, List, Option, None, Some, option_map, option_and_then, is_some}
use Rattle.std.specs.Bool.{then_some}
use Rattle.std.specs.Option.{option_map_or}
use Rattle.hv_body.specs.Body.{answered, fetch_answer}
use Rattle.hv_body.specs.Contents.{answer_of, fetched, loaded, stored}
use Rattle.hv_body.specs.Windows.{holds}
use Rattle.hv_body.specs.declared.contents.Contents.{Contents}
use Rattle.hv_body.specs.declared.contents.Contents.TheVariants.{Writable, ReadOnly, Emulated, Shared}
use Rattle.hv_body.specs.declared.place.Answer.{Answer}
use Rattle.hv_body.specs.declared.place.Answer.TheVariants.{Answered, Denied, NotHere}
use Rattle.hv_body.specs.declared.place.Place.{Place}
use Rattle.hv_emu.specs.Access.{store}
use Rattle.hv_emu.specs.Device.{DevState, device_access}
use Rattle.hv_kinds.specs.declared.access.Direction.{Direction}
use Rattle.hv_kinds.specs.declared.access.Direction.TheVariants.{Read, Write}
use Rattle.hv_kinds.specs.declared.address.AddressType.{AddressType}
use Rattle.hv_laws.proofs.Frame.{false-true}
use Rattle.hv_region.specs.declared.window.Window.{Window}
use Rattle.hv_rules.specs.Body.{BodyValue, access_answer}
use Rattle.hv_rules.specs.Windows.{guest_place, window_at}
use Rattle.hv_window_laws.specs.Answers.{AccessIsAnsweredInAWindow, AccessIsAnsweredOnce, FetchIsAnsweredInAWindow, FetchIsAnsweredOnce, NoAccessIsAnsweredAtAFault, NoFetchIsAnsweredAtAFault, is_here}
use Rattle.hv_window_laws.specs.Guests.{Guests}
use Rattle.hv_window_laws.specs.Run.{IsReached}
use Rattle.hv_window_laws.specs.Windows.{birth_in, if_leads, leads_to, windows_of}
use Rattle.hv_window_laws.proofs.Accesses.{accesses-held, accesses-reach-one, none-holds}

-- contents answer each access

answer-here : (o : Option ℕ) → is_here (answer_of o) ≡ true
answer-here None = refl
answer-here (Some value) = refl

chosen-here : (b : Bool) → is_here (cond b (Answered 0) Denied) ≡ true
chosen-here true = refl
chosen-here false = refl

fetched-here : (contents : Contents DevState) (offset size : ℕ) → is_here (fetched contents offset size) ≡ true
fetched-here (Writable bytes) offset size = refl
fetched-here (ReadOnly bytes) offset size = refl
fetched-here (Emulated device) offset size = refl
fetched-here (Shared area start) offset size = refl

loaded-here : (contents : Contents DevState) (offset size : ℕ) → is_here (loaded contents offset size) ≡ true
loaded-here (Writable bytes) offset size = refl
loaded-here (ReadOnly bytes) offset size = refl
loaded-here (Emulated device) offset size = answer-here _
loaded-here (Shared area start) offset size = refl

stored-here : (contents : Contents DevState) (offset size value : ℕ) → is_here (stored contents offset size value) ≡ true
stored-here (Writable bytes) offset size value = refl
stored-here (ReadOnly bytes) offset size value = refl
stored-here (Emulated device) offset size value = chosen-here (is_some (device_access device (store offset size value)).answer)
stored-here (Shared area start) offset size value = refl

-- a body answers where one of its windows holds the access
found-here : (answer : ℕ → Answer) (g : Window → ℕ) (found : Option Window) → ((offset : ℕ) → is_here (answer offset) ≡ true)
    → is_here (option_map_or answer (option_map g found) NotHere) ≡ is_some found
found-here answer g None here = refl
found-here answer g (Some w) here = here (g w)

body-here : (body : BodyValue) (place : Place) (answer : Contents DevState → (offset : ℕ) → Answer) → ((contents : Contents DevState) (offset : ℕ) → is_here (answer contents offset) ≡ true)
    → is_here (answered body place answer) ≡ is_some (find (holds place) (windows_of body))
body-here None place answer here = refl
body-here (Some live) place answer here = found-here (answer live.contents) _ (find (holds place) live.windows) (here live.contents)

access-here : (body : BodyValue) (way : Direction) (value : ℕ) (place : Place) → is_here (access_answer body way value place) ≡ is_some (find (holds place) (windows_of body))
access-here body Read value place = body-here body place (λ contents offset. loaded contents offset place.size) (λ contents offset. loaded-here contents offset place.size)
access-here body Write value place = body-here body place (λ contents offset. stored contents offset place.size value) (λ contents offset. stored-here contents offset place.size value)

-- a window leads to one row
leads-test : (b : Bool) (w : Window) → is_some (then_some b w) ≡ true → b ≡ true
leads-test true w is = refl
leads-test false w is = cc

one-row : (found : Option Window) (one other : ℕ) → is_some (if_leads one found) ≡ true → is_some (if_leads other found) ≡ true → one ≡ other
one-row None one other here there = absurd (false-true here)
one-row (Some w) one other here there =
    sym (eqb-true w.target one (leads-test (leads_to one w) w here)) ∙ eqb-true w.target other (leads-test (leads_to other w) w there)

module _ (count : ℕ) (guests : Guests) (is : IsReached count guests) (slot birth size : ℕ) (some : 1 ≤ size) where
  abbrev at-place : AddressType × ℕ → Place
  at-place place = record { birth = birth; kind = place.0; addr = place.1; size = size }

  abbrev windows : List Window
  windows = (guests.spaces slot).windows

  abbrev Shows : ℕ → (Place → Answer) → Type 0
  Shows row answer = (place : Place) → is_here (answer place) ≡ is_some (find (holds place) (windows_of (guests.bodies slot row)))

  -- the window that holds the access
  abbrev holder : Option (AddressType × ℕ) → Option Window
  holder o = option_and_then (λ place. find (holds (at-place place)) windows) o

  abbrev ranged : Option (AddressType × ℕ) → Option Window
  ranged o = option_and_then (λ place. window_at windows place.0 place.1 size) o

  abbrev answer-in : (Place → Answer) → Option (AddressType × ℕ) → Bool
  answer-in answer o = is_here (option_map_or answer (option_map at-place o) NotHere)

  by-holder : (row : ℕ) (answer : Place → Answer) → Shows row answer → (o : Option (AddressType × ℕ)) → answer-in answer o ≡ is_some (if_leads row (holder o))
  by-holder row answer here None = refl
  by-holder row answer here (Some place) = here (at-place place) ∙ ap is_some (accesses-reach-one count guests is slot row (at-place place) some)

  answered-once : (one other : ℕ) (f g : Place → Answer) → Shows one f → Shows other g → (o : Option (AddressType × ℕ)) → answer-in f o ≡ true → answer-in g o ≡ true → one ≡ other
  answered-once one other f g first second o here there =
      one-row (holder o) one other (sym (by-holder one f first o) ∙ here) (sym (by-holder other g second o) ∙ there)

  none-held : (o : Option (AddressType × ℕ)) → ranged o ≡ None → holder o ≡ None
  none-held None none = refl
  none-held (Some place) none = none-holds (at-place place) some windows none

  not-answered : (row : ℕ) (answer : Place → Answer) → Shows row answer → (o : Option (AddressType × ℕ)) → ranged o ≡ None → answer-in answer o ≡ false
  not-answered row answer here o none = by-holder row answer here o ∙ ap (λ f. is_some (if_leads row f)) (none-held o none)

  held-in-range : birth_in guests.dir slot ≡ Some birth → (o : Option (AddressType × ℕ)) → holder o ≡ ranged o
  held-in-range born None = refl
  held-in-range born (Some place) = accesses-held count guests is slot (at-place place) some born

  in-a-window : birth_in guests.dir slot ≡ Some birth → (row : ℕ) (answer : Place → Answer) → Shows row answer → (o : Option (AddressType × ℕ))
      → answer-in answer o ≡ is_some (if_leads row (ranged o))
  in-a-window born row answer here o = by-holder row answer here o ∙ ap (λ f. is_some (if_leads row f)) (held-in-range born o)

fetch-shows : (guests : Guests) (slot row : ℕ) (place : Place) → is_here (fetch_answer (guests.bodies slot row) place) ≡ is_some (find (holds place) (windows_of (guests.bodies slot row)))
fetch-shows guests slot row place =
    body-here (guests.bodies slot row) place (λ contents offset. fetched contents offset place.size) (λ contents offset. fetched-here contents offset place.size)

four : 1 ≤ 4
four = omega arith

pub fetch-once : FetchIsAnsweredOnce
fetch-once count guests is slot one other birth pc =
    answered-once count guests is slot birth 4 four one other (fetch_answer (guests.bodies slot one)) (fetch_answer (guests.bodies slot other))
    (fetch-shows guests slot one) (fetch-shows guests slot other) (guest_place pc)

pub access-once : AccessIsAnsweredOnce
access-once count guests is slot one other access some =
    answered-once count guests is slot access.generation.birth access.size some one other
    (access_answer (guests.bodies slot one) access.direction access.value) (access_answer (guests.bodies slot other) access.direction access.value)
    (access-here (guests.bodies slot one) access.direction access.value) (access-here (guests.bodies slot other) access.direction access.value) (guest_place access.address)

pub no-fetch : NoFetchIsAnsweredAtAFault
no-fetch count guests is slot row birth pc =
    not-answered count guests is slot birth 4 four row (fetch_answer (guests.bodies slot row)) (fetch-shows guests slot row) (guest_place pc)

pub no-access : NoAccessIsAnsweredAtAFault
no-access count guests is slot row access some =
    not-answered count guests is slot access.generation.birth access.size some row (access_answer (guests.bodies slot row) access.direction access.value)
    (access-here (guests.bodies slot row) access.direction access.value) (guest_place access.address)

pub fetch-in-window : FetchIsAnsweredInAWindow
fetch-in-window count guests is slot row birth pc born =
    in-a-window count guests is slot birth 4 four born row (fetch_answer (guests.bodies slot row)) (fetch-shows guests slot row) (guest_place pc)

pub access-in-window : AccessIsAnsweredInAWindow
access-in-window count guests is slot row access born some =
    in-a-window count guests is slot access.generation.birth access.size some born row (access_answer (guests.bodies slot row) access.direction access.value)
    (access-here (guests.bodies slot row) access.direction access.value) (guest_place access.address)
