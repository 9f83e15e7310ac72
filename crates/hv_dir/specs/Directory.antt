-- The guests of a board: which slot each has, and how far it is made.
use Rattle.std.specs.Prelude.{◌≡◌, ℕ, ◌+◌, Bool, true, false, List, length, replicate, Option, Some, None, is_some, is_none, position, slice_get, slice_set, if◌then◌else◌, Result, Ok, Err}
use Rattle.std.specs.Option.{ok_or, option_and_then, option_flatten, option_map}
use Rattle.std.specs.Str.{bytes_eq}
use Rattle.hv_kinds.specs.declared.stage.Stage.{Stage}
use Rattle.hv_kinds.specs.declared.stage.Stage.TheVariants.{Making, Made, Ending}
use Rattle.hv_text.specs.declared.limits.TheConstants.{SLOTS}
use Rattle.hv_dir.specs.declared.entry.Entry.{Entry}
use Rattle.hv_dir.specs.declared.refusal.DirRefusal.{DirRefusal}
use Rattle.hv_dir.specs.declared.refusal.DirRefusal.TheVariants.{NameUsed, NoSlot, NoSuchGuest, GuestState, Memory}

-- The directory has an entry or nothing for each slot, and counts the claims granted.
pub record DirState : Type 0 where
  pub entries : List (Option Entry)
  pub granted : ℕ

-- There is a place for each slot, and each entry stands at the place of its slot.
pub record AreEntries (entries : List (Option Entry)) : Type 0 where
  pub long : length entries ≡ SLOTS
  pub placed : (slot : ℕ) → (entry : Entry) → slice_get entries slot ≡ Some (Some entry) → entry.slot ≡ slot

-- At first no slot is taken, and no claim granted.
abbrev pub no_guests : DirState
no_guests = record { entries = replicate SLOTS None; granted = 0 }

-- The guest that has a slot, or nothing where the slot is free.
abbrev pub entry_at : DirState → (slot : ℕ) → Option Entry
entry_at dir slot = option_flatten (slice_get dir.entries slot)

-- The directory once a slot has another guest, or is free.
abbrev pub with_entry : DirState → (slot : ℕ) → Option Entry → DirState
with_entry dir slot entry = record dir { entries = slice_set dir.entries slot entry }

-- A slot is that of the guest with a name.
abbrev pub is_named : (name : List ℕ) → Option Entry → Bool
is_named name None = false
is_named name (Some guest) = bytes_eq guest.name name

-- The slot of the guest with a name.
abbrev pub slot_of : DirState → (name : List ℕ) → Option ℕ
slot_of dir name = position (is_named name) dir.entries

-- The guest with a name.
abbrev pub entry_of : DirState → (name : List ℕ) → Option Entry
entry_of dir name = option_and_then (entry_at dir) (slot_of dir name)

-- The least slot that is free.
abbrev pub free_slot : DirState → Option ℕ
free_slot dir = position is_none dir.entries

-- A new guest begins to be made, and its birth is the number of claims granted before.
abbrev pub new_guest : DirState → (name : List ℕ) → (slot : ℕ) → Entry
new_guest dir name slot = record { name = name; slot = slot; birth = dir.granted; stage = Making }

-- The directory once a new guest has a slot: one more claim is granted.
abbrev pub granted_in : DirState → (name : List ℕ) → (slot : ℕ) → DirState
granted_in dir name slot =
    record (with_entry dir slot (Some (new_guest dir name slot))) { granted = dir.granted + 1 }

-- A claim gives a new guest the least free slot, and answers the slot and the birth. A used name is refused, and then
-- a board without a free slot.
abbrev pub claimed : DirState → (name : List ℕ) → Result (DirState × (ℕ × ℕ)) DirRefusal
claimed dir name =
    if is_some (slot_of dir name) then Err NameUsed
    else ok_or (option_map (λ slot. (granted_in dir name slot, (slot, dir.granted))) (free_slot dir)) NoSlot

-- Two stages are the same.
abbrev pub is_stage : Stage → Stage → Bool
is_stage Making Making = true
is_stage Made Made = true
is_stage Ending Ending = true
is_stage _ _ = false

-- What a call gives that needs a guest at a stage: it is refused where there is no guest, and where the guest is at
-- another stage.
abbrev pub if_at : {A : Type 0} → Stage → (Entry → A) → Option Entry → Result A DirRefusal
if_at stage gives None = Err NoSuchGuest
if_at stage gives (Some guest) = if is_stage guest.stage stage then Ok (gives guest) else Err (GuestState guest.stage)

-- The slot and the birth of the guest with a name, which has to be at a stage.
abbrev pub guest_at : DirState → (name : List ℕ) → Stage → Result (ℕ × ℕ) DirRefusal
guest_at dir name stage = if_at stage (λ guest. (guest.slot, guest.birth)) (entry_of dir name)

-- The guest at its next stage, or nothing where there is none.
abbrev pub at_next : (next : Option Stage) → Entry → Option Entry
at_next next guest = option_map (λ stage. record guest { stage = stage }) next

-- The guest with a name, which has to be at a stage, turns to the next one, or lets its slot go where there is none.
abbrev pub turned : DirState → (name : List ℕ) → Stage → (next : Option Stage) → Result DirState DirRefusal
turned dir name stage next =
    if_at stage (λ guest. with_entry dir guest.slot (at_next next guest)) (entry_of dir name)

-- A call ran out of memory, or this refusal is the one that is due.
abbrev pub IsDueOrMemory : {A : Type 0} → Result A DirRefusal → DirRefusal → Type 0
IsDueOrMemory due (Memory e) = Unit {0}
IsDueOrMemory due refusal = due ≡ Err refusal
