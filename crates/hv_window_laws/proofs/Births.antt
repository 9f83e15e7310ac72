-- The births of the guests, and what a step changes of them.
use Rattle.std.proofs.Common.{◌≡◌, ℕ, zero, suc, ◌⊎◌, inl, inr, Bool, true, false, cond, refl, sym, ap, subst, ◌∙◌, List, [], ◌∷◌, Option, None, Some, Result, Ok, Err, option_map, option_and_then, slice_get, set, get_or, is_none, is_some, replicate}
use Rattle.std.specs.List.{AllByRecursion}
use Rattle.std.specs.Option.{option_flatten, ok_or}
use Rattle.std.proofs.lemmas.Option.{same_Some}
use Rattle.std.proofs.lemmas.List.Quantifiers.{position-Some}
use Rattle.hv_answer.specs.declared.reply.Reply.{Reply}
use Rattle.hv_answer.specs.declared.reply.Reply.TheVariants as reply
use Rattle.hv_dir.specs.Directory.{DirState, entry_at, entry_of, slot_of, free_slot, is_stage, with_entry, granted_in, new_guest, claimed, if_at, guest_at, at_next, no_guests}
use Rattle.hv_dir.specs.declared.entry.Entry.{Entry}
use Rattle.hv_dir.specs.declared.refusal.DirRefusal.{DirRefusal}
use Rattle.hv_dir.specs.declared.refusal.DirRefusal.TheVariants as dir
use Rattle.hv_dir.specs.declared.refusal.DirRefusal.TheVariants.{NoSlot, NameUsed}
use Rattle.hv_kinds.specs.declared.generation.Generation.{Generation}
use Rattle.hv_kinds.specs.declared.stage.Stage.{Stage}
use Rattle.hv_refusal.specs.declared.refusal.Refusal.{Refusal}
use Rattle.hv_rules.specs.Carry.{Carry}
use Rattle.hv_rules.specs.Dir.{DirAgrees, Admits, admitted, dir_after, changed, generation_of, guest_in, named, with_region}
use Rattle.hv_step.specs.declared.step.Step.{Step}
use Rattle.hv_step.specs.declared.step.Step.TheVariants as step
use Rattle.hv_region.specs.declared.window.Window.{Window}
use Rattle.hv_text.specs.declared.limits.TheConstants.{SLOTS}
use Rattle.hv_window_laws.specs.Guests.{Guests, IsInOrder, LeavesNoWindow}
use Rattle.hv_window_laws.specs.Windows.{birth_in}

-- each entry stands at its slot
abbrev pub Placed : DirState → Type 0
Placed d = (k : ℕ) (e : Entry) → entry_at d k ≡ Some e → e.slot ≡ k

-- an entry after one is put at a place: that one, or what stood there
put-at : (xs : List (Option Entry)) (i j : ℕ) (o : Option Entry)
    → ((i ≡ j) × (option_flatten (slice_get (set xs i o) j) ≡ o)) ⊎ (option_flatten (slice_get (set xs i o) j) ≡ option_flatten (slice_get xs j))
put-at [] i j o = inr refl
put-at (x ∷ xs) zero zero o = inl (refl, refl)
put-at (x ∷ xs) zero (suc j) o = inr refl
put-at (x ∷ xs) (suc i) zero o = inr refl
put-at (x ∷ xs) (suc i) (suc j) o = later (put-at xs i j o)
  where
    later : ((i ≡ j) × (option_flatten (slice_get (set xs i o) j) ≡ o)) ⊎ (option_flatten (slice_get (set xs i o) j) ≡ option_flatten (slice_get xs j))
        → ((suc i ≡ suc j) × (option_flatten (slice_get (set xs i o) j) ≡ o)) ⊎ (option_flatten (slice_get (set xs i o) j) ≡ option_flatten (slice_get xs j))
    later (inl at) = inl (ap suc at.0, at.1)
    later (inr was) = inr was

entry-placed : (d : DirState) (i : ℕ) (o : Option Entry) (after : DirState) → after.entries ≡ set d.entries i o → ((e : Entry) → o ≡ Some e → e.slot ≡ i) → Placed d → Placed after
entry-placed d i o after is put placed = λ k e there.
    at k e (put-at d.entries i k o) (sym (ap (λ xs. option_flatten (slice_get xs k)) is) ∙ there)
  where
    at : (k : ℕ) (e : Entry)
        → ((i ≡ k) × (option_flatten (slice_get (set d.entries i o) k) ≡ o)) ⊎ (option_flatten (slice_get (set d.entries i o) k) ≡ option_flatten (slice_get d.entries k))
        → option_flatten (slice_get (set d.entries i o) k) ≡ Some e → e.slot ≡ k
    at k e (inl new) there = put e (sym new.1 ∙ there) ∙ new.0
    at k e (inr was) there = placed k e (sym was ∙ there)

-- the guest with a name stands at its slot
named-at : (d : DirState) (name : List ℕ) (slot : Option ℕ) (e : Entry) → Placed d → option_and_then (entry_at d) slot ≡ Some e → entry_at d e.slot ≡ Some e
named-at d name None e placed is = absurd (cc)
named-at d name (Some k) e placed is = subst (λ n. entry_at d n ≡ Some e) (sym (placed k e is)) is

pub guest-stands : (d : DirState) (name : List ℕ) (e : Entry) → Placed d → entry_of d name ≡ Some e → entry_at d e.slot ≡ Some e
guest-stands d name e placed is = named-at d name (slot_of d name) e placed is

-- a guest that is admitted stands in its slot
abbrev OkOf : ℕ × ℕ → Result (ℕ × ℕ) DirRefusal
OkOf a = Ok a

record Stands (d : DirState) (name : List ℕ) (guest : ℕ × ℕ) : Type 0 where
  entry : Entry
  there : entry_of d name ≡ Some entry
  is : (entry.slot, entry.birth) ≡ guest

same-ok : (a b : ℕ × ℕ) → OkOf a ≡ OkOf b → a ≡ b
same-ok a b e = cc

stands-at : (d : DirState) (name : List ℕ) (e : Entry) (guest : ℕ × ℕ) (b : Bool) → entry_of d name ≡ Some e
    → cond b (Ok (e.slot, e.birth)) (Err (dir.GuestState e.stage)) ≡ Ok guest → Stands d name guest
stands-at d name e guest true there is = record { entry = e; there = there; is = same-ok (e.slot, e.birth) guest is }
stands-at d name e guest false there is = absurd (cc)

stands-in : (d : DirState) (name : List ℕ) (stage : Stage) (o : Option Entry) (guest : ℕ × ℕ) → entry_of d name ≡ o
    → if_at stage (λ e. (e.slot, e.birth)) o ≡ Ok guest → Stands d name guest
stands-in d name stage None guest there is = absurd (cc)
stands-in d name stage (Some e) guest there is = stands-at d name e guest (is_stage e.stage stage) there is

stands : (d : DirState) (name : List ℕ) (stage : Stage) (guest : ℕ × ℕ) → guest_at d name stage ≡ Ok guest → Stands d name guest
stands d name stage guest is = stands-in d name stage (entry_of d name) guest refl is

stands-born : (d : DirState) (name : List ℕ) (guest : ℕ × ℕ) → Placed d → Stands d name guest → birth_in d guest.0 ≡ Some guest.1
stands-born d name guest placed at =
    subst (λ g. birth_in d g.0 ≡ Some g.1) at.is (ap (option_map (λ e. e.birth)) (guest-stands d name at.entry placed at.there))

admitted-at : (d : DirState) (name : List ℕ) (stage : Stage) (found : Result (ℕ × ℕ) DirRefusal) (gen : Generation) (refused : Refusal → Reply) (r : Reply) (c : Carry)
    → guest_at d name stage ≡ found → Placed d → Admits (admitted found) (Some gen) refused r c → birth_in d gen.slot ≡ Some gen.birth
admitted-at d name stage (Ok guest) gen refused r c is placed shown =
    subst (λ g. birth_in d g.slot ≡ Some g.birth) (sym (same_Some gen (generation_of guest) shown))
    (stands-born d name guest placed (stands d name stage guest is))
admitted-at d name stage (Err why) gen refused r c is placed shown = absurd (some-none gen shown.0)
  where
    some-none : (g : Generation) → Some g ≡ None → ⊥
    some-none g e = cc

-- the guest that a step shows is the one of that birth
pub admitted-born : (d : DirState) (name : List ℕ) (stage : Stage) (row : ℕ) (gen : Generation) (refused : Refusal → Reply) (r : Reply) (c : Carry)
    → Placed d → Admits (with_region (Some row) (guest_in d name stage)) (Some gen) refused r c → birth_in d gen.slot ≡ Some gen.birth
admitted-born d name stage row gen refused r c placed shown = admitted-at d name stage (guest_at d name stage) gen refused r c refl placed shown

-- windows keep the birth of their guest
abbrev Born : DirState → ℕ → List Window → Type 0
Born d g ws = AllByRecursion (λ w. birth_in d g ≡ Some w.birth) ws

still-same : (d after : DirState) (g : ℕ) (ws : List Window) → birth_in after g ≡ birth_in d g → Born d g ws → Born after g ws
still-same d after g ws same born = subst (λ b. AllByRecursion (λ w. b ≡ Some w.birth) ws) (sym same) born

still-free : (d after : DirState) (g : ℕ) (ws : List Window) → birth_in d g ≡ None → Born d g ws → Born after g ws
still-free d after g [] free born = tt
still-free d after g (w ∷ ws) free born = absurd (none-some w.birth (sym free ∙ born.0))
  where
    none-some : (b : ℕ) → None ≡ Some b → ⊥
    none-some b e = cc

still-none : (d after : DirState) (g : ℕ) (ws : List Window) → ws ≡ [] → Born after g ws
still-none d after g ws none = subst (Born after g) (sym none) tt

-- a slot that is free has no entry
none-at : (xs : List (Option Entry)) (i : ℕ) → is_none (get_or xs i None) ≡ true → option_flatten (slice_get xs i) ≡ None
none-at [] i none = refl
none-at (None ∷ xs) zero none = refl
none-at (Some e ∷ xs) zero none = absurd (cc)
none-at (x ∷ xs) (suc i) none = none-at xs i none

free-none : (d : DirState) (slot : ℕ) → free_slot d ≡ Some slot → entry_at d slot ≡ None
free-none d slot is = none-at d.entries slot (position-Some is_none d.entries slot None is).1

-- a claim that is granted takes a free slot
abbrev granted_slot : Reply → Option ℕ
granted_slot (reply.Name (Ok guest)) = Some guest.slot
granted_slot r = None

name-free : (d : DirState) (name : List ℕ) (stopped : Option Refusal) (r : Reply) (given : ℕ) → r ≡ reply.Name (named stopped (claimed d name)) → granted_slot r ≡ Some given
    → free_slot d ≡ Some given
name-free d name (Some why) r given is grants = absurd (let no = sym (ap granted_slot is) ∙ grants in cc)
name-free d name None r given is grants = free-of d name (is_some (slot_of d name)) (free_slot d) given (sym (ap granted_slot is) ∙ grants)
  where
    free-of : (d : DirState) (name : List ℕ) (used : Bool) (slot : Option ℕ) (given : ℕ)
        → granted_slot (reply.Name (named None (cond used (Err NameUsed) (ok_or (option_map (λ k. (granted_in d name k, (k, d.granted))) slot) NoSlot)))) ≡ Some given → slot ≡ Some given
    free-of d name true slot given is = absurd (cc)
    free-of d name false None given is = absurd (cc)
    free-of d name false (Some k) given is = is

-- a step on the directory: entries stand at their slots, and windows keep their births
pub record Kept (guests : Guests) (after : DirState) : Type 0 where
  pub placed : Placed after
  pub births : (g : ℕ) → Born guests.dir g (guests.spaces g).windows → Born after g (guests.spaces g).windows

pub unchanged : (guests : Guests) → Placed guests.dir → Kept guests guests.dir
unchanged guests placed = record { placed = placed; births = λ g born. born }

put-births : (guests : Guests) (after : DirState) (i g : ℕ) (o : Option Entry) → after.entries ≡ set guests.dir.entries i o
    → (i ≡ g → option_map (λ e. e.birth) o ≡ birth_in after g → Born guests.dir g (guests.spaces g).windows → Born after g (guests.spaces g).windows)
    → Born guests.dir g (guests.spaces g).windows → Born after g (guests.spaces g).windows
put-births guests after i g o is new born =
    at (put-at guests.dir.entries i g o)
  where
    at : ((i ≡ g) × (option_flatten (slice_get (set guests.dir.entries i o) g) ≡ o)) ⊎ (option_flatten (slice_get (set guests.dir.entries i o) g) ≡ option_flatten (slice_get guests.dir.entries g))
        → Born after g (guests.spaces g).windows
    at (inl here) = new here.0 (sym (ap (λ xs. option_map (λ (e : Entry). e.birth) (option_flatten (slice_get xs g))) is ∙ ap (option_map (λ e. e.birth)) here.1)) born
    at (inr was) =
        still-same guests.dir after g (guests.spaces g).windows
        (ap (λ xs. option_map (λ (e : Entry). e.birth) (option_flatten (slice_get xs g))) is ∙ ap (option_map (λ e. e.birth)) was) born

granted-kept : (guests : Guests) (name : List ℕ) (slot : ℕ) → Placed guests.dir → free_slot guests.dir ≡ Some slot → Kept guests (granted_in guests.dir name slot)
granted-kept guests name slot placed free =
    let d = guests.dir in
    let after = granted_in d name slot in
    let entry = new_guest d name slot in
    record {
      placed = entry-placed d slot (Some entry) after refl (λ e is. ap (λ x. x.slot) (sym (same_Some entry e is))) placed;
      births = λ g.
          put-births guests after slot g (Some entry) refl
          (λ here new. still-free d after g (guests.spaces g).windows
          (subst (λ n. birth_in d n ≡ None) here (ap (option_map (λ e. e.birth)) (free-none d slot free))));
    }

turned-kept : (guests : Guests) (name : List ℕ) (from : Stage) (to : Option Stage) (e : Entry) → Placed guests.dir → entry_of guests.dir name ≡ Some e
    → LeavesNoWindow guests (Ok (e.slot, e.birth)) to → Kept guests (with_entry guests.dir e.slot (at_next to e))
turned-kept guests name from (Some next) e placed there leaves =
    let d = guests.dir in
    let turned-entry = record e { stage = next } in
    let after = with_entry d e.slot (Some turned-entry) in
    record {
      placed = entry-placed d e.slot (Some turned-entry) after refl (λ x is. ap (λ y. y.slot) (sym (same_Some turned-entry x is))) placed;
      births = λ g.
          put-births guests after e.slot g (Some turned-entry) refl
          (λ here new. still-same d after g (guests.spaces g).windows
          (sym new ∙ sym (subst (λ n. birth_in d n ≡ Some e.birth) here (ap (option_map (λ x. x.birth)) (guest-stands d name e placed there)))));
    }
turned-kept guests name from None e placed there leaves =
    let d = guests.dir in
    let after = with_entry d e.slot None in
    record {
      placed = entry-placed d e.slot None after refl (λ x is. absurd (none-entry x is)) placed;
      births = λ g.
          put-births guests after e.slot g None refl
          (λ here new born. still-none d after g (guests.spaces g).windows (subst (λ n. (guests.spaces n).windows ≡ []) here leaves));
    }
  where
    none-entry : (x : Entry) → None ≡ Some x → ⊥
    none-entry x e = cc

stage-at : (guests : Guests) (name : List ℕ) (from : Stage) (to : Option Stage) (e : Entry) (b : Bool) → Placed guests.dir → entry_of guests.dir name ≡ Some e
    → LeavesNoWindow guests (cond b (Ok (e.slot, e.birth)) (Err (dir.GuestState e.stage))) to
    → Kept guests (changed guests.dir (cond b (Ok (with_entry guests.dir e.slot (at_next to e))) (Err (dir.GuestState e.stage))))
stage-at guests name from to e true placed there leaves = turned-kept guests name from to e placed there leaves
stage-at guests name from to e false placed there leaves = unchanged guests placed

stage-kept : (guests : Guests) (name : List ℕ) (from : Stage) (to : Option Stage) (o : Option Entry) → Placed guests.dir → entry_of guests.dir name ≡ o
    → LeavesNoWindow guests (if_at from (λ guest. (guest.slot, guest.birth)) o) to
    → Kept guests (changed guests.dir (if_at from (λ guest. with_entry guests.dir guest.slot (at_next to guest)) o))
stage-kept guests name from to None placed there leaves = unchanged guests placed
stage-kept guests name from to (Some e) placed there leaves = stage-at guests name from to e (is_stage e.stage from) placed there leaves

name-kept : (guests : Guests) (name : List ℕ) (r : Reply) (c : Carry) → Placed guests.dir → DirAgrees guests.dir (step.Name (record { name = name })) r c
    → Kept guests (dir_after guests.dir (step.Name (record { name = name })) r c)
name-kept guests name (reply.Name (Ok guest)) c placed agreed =
    granted-kept guests name guest.slot placed (name-free guests.dir name c.stopped (reply.Name (Ok guest)) guest.slot agreed refl)
name-kept guests name (reply.Name (Err why)) c placed agreed = unchanged guests placed
name-kept guests name _ c placed agreed = unchanged guests placed

pub dir-kept : (guests : Guests) (s : Step) (r : Reply) (c : Carry) → Placed guests.dir → IsInOrder guests s c → DirAgrees guests.dir s r c → Kept guests (dir_after guests.dir s r c)
dir-kept guests (step.Name s) r c placed order agreed = name-kept guests s.name r c placed agreed
dir-kept guests (step.Stage s) r c placed order agreed = stage-kept guests s.name s.from s.to (entry_of guests.dir s.name) placed refl order
dir-kept guests s r c placed order agreed = unchanged guests placed

pub dir-untouched : (guests : Guests) (after : DirState) → Placed guests.dir → after ≡ guests.dir → Kept guests after
dir-untouched guests after placed is = subst (Kept guests) (sym is) (unchanged guests placed)

pub placed-at-start : Placed no_guests
placed-at-start = λ k e there. absurd (no-entry SLOTS k e there)
  where
    no-entry : (n k : ℕ) (e : Entry) → option_flatten (slice_get (replicate n None) k) ≡ Some e → ⊥
    no-entry zero k e is = cc
    no-entry (suc n) zero e is = cc
    no-entry (suc n) (suc k) e is = no-entry n k e is
