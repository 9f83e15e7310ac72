-- The directory by slots: what a step leaves at each, and where the guest with a name stands.
use Rattle.std.proofs.Common.{◌≡◌, ℕ, zero, suc, ◌≤◌, ◌<◌, ◌⊎◌, inl, inr, Bool, true, false, cond, refl, sym, ap, subst, ◌∙◌, List, [], ◌∷◌, length, Option, None, Some, Ok, Err, option_map, option_and_then, slice_get, set, get_or, is_none, is_some, replicate, position, arith, nat_lt}
use Rattle.std.specs.List.{position_or_len}
use Rattle.std.specs.Option.{option_flatten, ok_or}
use Rattle.std.specs.Str.{bytes_eq}
use Rattle.std.proofs.lemmas.Bool.Decides.{nat_tests}
use Rattle.std.proofs.lemmas.Option.{same_Some, get_or_from_slice_get, slice_get_within, slice_get-get_or}
use Rattle.std.proofs.lemmas.List.Quantifiers.{position-Some}
use Rattle.std.proofs.lemmas.List.Sums.{fails_before_first}
use Rattle.std.proofs.lemmas.Slice.Eq.{bytes_eq-Decides}
use Rattle.hv_answer.specs.declared.reply.Reply.{Reply}
use Rattle.hv_answer.specs.declared.reply.Reply.TheVariants as reply
use Rattle.hv_dir.specs.Directory.{DirState, entry_at, entry_of, slot_of, free_slot, is_stage, is_named, with_entry, granted_in, new_guest, claimed, if_at, guest_at, turned, at_next, no_guests}
use Rattle.hv_dir.specs.declared.entry.Entry.{Entry}
use Rattle.hv_dir.specs.declared.refusal.DirRefusal.{DirRefusal}
use Rattle.hv_dir.specs.declared.refusal.DirRefusal.TheVariants as dir
use Rattle.hv_dir.specs.declared.refusal.DirRefusal.TheVariants.{NoSlot, NameUsed}
use Rattle.hv_kinds.specs.declared.generation.Generation.{Generation}
use Rattle.hv_kinds.specs.declared.stage.Stage.{Stage}
use Rattle.hv_kinds.specs.declared.stage.Stage.TheVariants.{Making, Made, Ending}
use Rattle.hv_refusal.specs.declared.refusal.Refusal.{Refusal}
use Rattle.hv_rules.specs.Carry.{Carry}
use Rattle.std.specs.Result.{result_ok}
use Rattle.hv_rules.specs.Dir.{Admits, DirAgrees, admitted, changed, dir_after, done, generation_of, guest_in, named, with_region}
use Rattle.hv_step.specs.declared.step.Step.TheVariants as step
use Rattle.hv_text.specs.declared.limits.TheConstants.{SLOTS}
use Rattle.hv_order_laws.specs.Owners.{IsDirectory}

-- a place of a list

flat-some : (o : Option (Option Entry)) (e : Entry) → option_flatten o ≡ Some e → o ≡ Some (Some e)
flat-some None e is = absurd (cc is)
flat-some (Some None) e is = absurd (cc is)
flat-some (Some (Some f)) e is = ap (λ (x : Entry). Some (Some x)) (same_Some f e is)

pub stands : (d : DirState) (k : ℕ) (e : Entry) → entry_at d k ≡ Some e → slice_get d.entries k ≡ Some (Some e)
stands d k e is = flat-some (slice_get d.entries k) e is

put-here : {X : Type 0} (xs : List X) (i : ℕ) (x o : X) → slice_get xs i ≡ Some x → slice_get (set xs i o) i ≡ Some o
put-here [] i x o is = absurd (cc is)
put-here (y ∷ xs) zero x o is = refl
put-here (y ∷ xs) (suc i) x o is = put-here xs i x o is

put-else : {X : Type 0} (xs : List X) (i j : ℕ) (o : X) → (i ≡ j → ⊥) → slice_get (set xs i o) j ≡ slice_get xs j
put-else [] i j o other = refl
put-else (x ∷ xs) zero zero o other = absurd (other refl)
put-else (x ∷ xs) zero (suc j) o other = refl
put-else (x ∷ xs) (suc i) zero o other = refl
put-else (x ∷ xs) (suc i) (suc j) o other = put-else xs i j o (λ same. other (ap suc same))

pub equal-or : (i j : ℕ) → (i ≡ j) ⊎ (i ≡ j → ⊥)
equal-or zero zero = inl refl
equal-or zero (suc j) = inr (λ e. omega (arith, e))
equal-or (suc i) zero = inr (λ e. omega (arith, e))
equal-or (suc i) (suc j) = elim (equal-or i j) [ inl same ↦ inl (ap suc same) | inr other ↦ inr (λ e. other (omega (arith, e))) ]

-- the directory with an entry put at a slot that is there

pub at-put : (d : DirState) (i : ℕ) (x o : Option Entry) (granted : ℕ) → slice_get d.entries i ≡ Some x
    → entry_at (record { entries = set d.entries i o; granted = granted }) i ≡ o
at-put d i x o granted is = ap option_flatten (put-here d.entries i x o is)

pub at-else : (d : DirState) (i j : ℕ) (o : Option Entry) (granted : ℕ) → (i ≡ j → ⊥)
    → entry_at (record { entries = set d.entries i o; granted = granted }) j ≡ entry_at d j
at-else d i j o granted other = ap option_flatten (put-else d.entries i j o other)

-- names

same-name : (one other : List ℕ) → bytes_eq one other ≡ true → one ≡ other
same-name one other is = (bytes_eq-Decides one other).0 is

named-is : (name : List ℕ) (o : Option Entry) → is_named name o ≡ true → (e : Entry) × (o ≡ Some e) × (e.name ≡ name)
named-is name None is = absurd (cc is)
named-is name (Some e) is = (e, refl, same-name e.name name is)

is-named : (e : Entry) (name : List ℕ) → e.name ≡ name → is_named name (Some e) ≡ true
is-named e name is = (bytes_eq-Decides e.name name).1 is

position-none : {X : Type 0} (p : X → Bool) (xs : List X) (k : ℕ) (x : X) → position p xs ≡ None → slice_get xs k ≡ Some x → p x ≡ true → ⊥
position-none p xs k x none at is =
    let within : k < length xs = slice_get_within xs k x at in
    let past : length xs ≤ position_or_len p xs = beyond (nat_lt (position_or_len p xs) (length xs)) refl none in
    let fails : p (get_or xs k x) ≡ false = fails_before_first p xs k x (omega arith) in
    no (sym is ∙ (sym (ap p (get_or_from_slice_get xs k x x at)) ∙ fails))
  where
    no : true ≡ false → ⊥
    no e = cc

    beyond : (b : Bool) → nat_lt (position_or_len p xs) (length xs) ≡ b → cond b (Some (position_or_len p xs)) None ≡ None → length xs ≤ position_or_len p xs
    beyond true is e = absurd (cc e)
    beyond false is e = grind (arith, nat_tests)

-- the guest with a name stands at its slot

of-slot : (d : DirState) (slot : Option ℕ) (e : Entry) → option_and_then (entry_at d) slot ≡ Some e → (k : ℕ) × (slot ≡ Some k) × (entry_at d k ≡ Some e)
of-slot d None e is = absurd (cc is)
of-slot d (Some k) e is = (k, refl, is)

pub record Stands (d : DirState) (name : List ℕ) (e : Entry) : Type 0 where
  pub at : entry_at d e.slot ≡ Some e
  pub called : e.name ≡ name

pub named-stands : (d : DirState) (name : List ℕ) (e : Entry) → IsDirectory d → entry_of d name ≡ Some e → Stands d name e
named-stands d name e ok is =
    let found = of-slot d (slot_of d name) e is in
    let k = found.0 in
    let there = found.2 in
    let passes = (position-Some (is_named name) d.entries k None found.1).1 in
    let here : get_or d.entries k None ≡ Some e = get_or_from_slice_get d.entries k (Some e) None (stands d k e there) in
    let it = named-is name (get_or d.entries k None) passes in
    let same : it.0 ≡ e = same_Some it.0 e (sym it.1 ∙ here) in
    record {
      at = subst (λ (n : ℕ). entry_at d n ≡ Some e) (sym (ok.placed k e there)) there;
      called = ap (λ (x : Entry). x.name) (sym same) ∙ it.2;
    }

found-at : (d : DirState) (name : List ℕ) (e : Entry) (k : ℕ) → IsDirectory d → entry_at d k ≡ Some e → e.name ≡ name → (slot : Option ℕ) → slot_of d name ≡ slot
    → option_and_then (entry_at d) slot ≡ Some e
found-at d name e k ok at is None none = absurd (position-none (is_named name) d.entries k (Some e) none (stands d k e at) (is-named e name is))
found-at d name e k ok at is (Some j) some =
    let passes = (position-Some (is_named name) d.entries j None some).1 in
    let it = named-is name (get_or d.entries j None) passes in
    let within = (position-Some (is_named name) d.entries j None some).0 in
    let there : entry_at d j ≡ Some it.0 = ap option_flatten (slice_get-get_or d.entries j None within ∙ ap (λ (o : Option Entry). Some o) it.1) in
    let same : j ≡ k = ok.distinct j k it.0 e there at (it.2 ∙ sym is) in
    subst (λ (n : ℕ). entry_at d n ≡ Some e) (sym same) at

pub stands-named : (d : DirState) (name : List ℕ) (e : Entry) (k : ℕ) → IsDirectory d → entry_at d k ≡ Some e → e.name ≡ name → entry_of d name ≡ Some e
stands-named d name e k ok at is = found-at d name e k ok at is (slot_of d name) refl

none-of : {A : Type 0} (o : Option A) → is_some o ≡ false → o ≡ None
none-of None is = refl
none-of (Some x) is = absurd (cc is)

pub unused-name : (d : DirState) (name : List ℕ) (k : ℕ) (e : Entry) → is_some (slot_of d name) ≡ false → entry_at d k ≡ Some e → e.name ≡ name → ⊥
unused-name d name k e none at is = position-none (is_named name) d.entries k (Some e) (none-of (slot_of d name) none) (stands d k e at) (is-named e name is)

-- a claim

pub record Claims (d : DirState) (name : List ℕ) (r : Reply) (after : DirState) : Type 0 where
  pub slot : ℕ
  pub reply : r ≡ reply.Name (Ok (record { slot = slot; birth = d.granted }))
  pub free : slice_get d.entries slot ≡ Some None
  pub unused : is_some (slot_of d name) ≡ false
  pub after_is : after ≡ granted_in d name slot

free-at : (xs : List (Option Entry)) (i : ℕ) → i < length xs → is_none (get_or xs i None) ≡ true → slice_get xs i ≡ Some None
free-at [] i h none = absurd (omega arith)
free-at (None ∷ xs) zero h none = refl
free-at (Some e ∷ xs) zero h none = absurd (cc none)
free-at (x ∷ xs) (suc i) h none = free-at xs i (omega arith) none

free-slot : (d : DirState) (slot : ℕ) → free_slot d ≡ Some slot → slice_get d.entries slot ≡ Some None
free-slot d slot is = let found = position-Some is_none d.entries slot None is in free-at d.entries slot found.0 found.1

claims-of : (d : DirState) (name : List ℕ) (r : Reply) (c : Carry) (used : Bool) (slot : Option ℕ) → is_some (slot_of d name) ≡ used → free_slot d ≡ slot
    → r ≡ reply.Name (named None (cond used (Err NameUsed) (ok_or (option_map (λ k. (granted_in d name k, (k, d.granted))) slot) NoSlot)))
    → Claims d name r (dir_after d (step.Name (record { name = name })) r c) ⊎ ((why : Refusal) × (r ≡ reply.Name (Err why)))
claims-of d name r c true slot used free is = inr (_, is)
claims-of d name r c false None used free is = inr (_, is)
claims-of d name r c false (Some k) used free is = inl (record {
  slot = k;
  reply = is;
  free = free-slot d k free;
  unused = used;
  after_is = ap (λ (x : Reply). dir_after d (step.Name (record { name = name })) x c) is;
})

named-cases : (d : DirState) (name : List ℕ) (stopped : Option Refusal) (r : Reply) (c : Carry) → r ≡ reply.Name (named stopped (claimed d name))
    → Claims d name r (dir_after d (step.Name (record { name = name })) r c) ⊎ ((why : Refusal) × (r ≡ reply.Name (Err why)))
named-cases d name (Some why) r c is = inr (why, is)
named-cases d name None r c is = claims-of d name r c (is_some (slot_of d name)) (free_slot d) refl refl is

pub name-cases : (d : DirState) (name : List ℕ) (r : Reply) (c : Carry) → DirAgrees d (step.Name (record { name = name })) r c
    → Claims d name r (dir_after d (step.Name (record { name = name })) r c) ⊎ ((why : Refusal) × (r ≡ reply.Name (Err why)))
name-cases d name r c agreed = named-cases d name c.stopped r c agreed

-- a change of stage

pub record Turns (d : DirState) (name : List ℕ) (from : Stage) (to : Option Stage) (r : Reply) (c : Carry) (after : DirState) : Type 0 where
  pub entry : Entry
  pub of : entry_of d name ≡ Some entry
  pub stage : entry.stage ≡ from
  pub reply : r ≡ reply.Stage (Ok tt)
  pub guest : c.guest ≡ Some (entry.slot, entry.birth)
  pub given : guest_at d name from ≡ Ok (entry.slot, entry.birth)
  pub after_is : after ≡ with_entry d entry.slot (at_next to entry)

pub record Stays (d : DirState) (name : List ℕ) (from : Stage) (r : Reply) (after : DirState) : Type 0 where
  pub why : Refusal
  pub reply : r ≡ reply.Stage (Err why)
  pub refusal : DirRefusal
  pub given : guest_at d name from ≡ Err refusal
  pub after_is : after ≡ d

pub same-stage : (one other : Stage) → is_stage one other ≡ true → one ≡ other
same-stage Making Making is = refl
same-stage Made Made is = refl
same-stage Ending Ending is = refl
same-stage Making Made is = absurd (cc is)
same-stage Making Ending is = absurd (cc is)
same-stage Made Making is = absurd (cc is)
same-stage Made Ending is = absurd (cc is)
same-stage Ending Making is = absurd (cc is)
same-stage Ending Made is = absurd (cc is)

turns-at : (d : DirState) (name : List ℕ) (from : Stage) (to : Option Stage) (r : Reply) (c : Carry) (e : Entry) (b : Bool) → entry_of d name ≡ Some e → is_stage e.stage from ≡ b
    → r ≡ reply.Stage (done (cond b (Ok (with_entry d e.slot (at_next to e))) (Err (dir.GuestState e.stage))))
    → c.guest ≡ result_ok (cond b (Ok (e.slot, e.birth)) (Err (dir.GuestState e.stage)))
    → guest_at d name from ≡ cond b (Ok (e.slot, e.birth)) (Err (dir.GuestState e.stage))
    → turned d name from to ≡ cond b (Ok (with_entry d e.slot (at_next to e))) (Err (dir.GuestState e.stage))
    → Turns d name from to r c (changed d (turned d name from to)) ⊎ Stays d name from r (changed d (turned d name from to))
turns-at d name from to r c e true of stage is guest given turns = inl (record {
  entry = e;
  of = of;
  stage = same-stage e.stage from stage;
  reply = is;
  guest = guest;
  given = given;
  after_is = ap (changed d) turns;
})
turns-at d name from to r c e false of stage is guest given turns = inr (record {
  why = _;
  reply = is;
  refusal = dir.GuestState e.stage;
  given = given;
  after_is = ap (changed d) turns;
})

turns-in : (d : DirState) (name : List ℕ) (from : Stage) (to : Option Stage) (r : Reply) (c : Carry) (o : Option Entry) → entry_of d name ≡ o
    → r ≡ reply.Stage (done (if_at from (λ guest. with_entry d guest.slot (at_next to guest)) o))
    → c.guest ≡ result_ok (if_at from (λ guest. (guest.slot, guest.birth)) o)
    → guest_at d name from ≡ if_at from (λ guest. (guest.slot, guest.birth)) o
    → turned d name from to ≡ if_at from (λ guest. with_entry d guest.slot (at_next to guest)) o
    → Turns d name from to r c (changed d (turned d name from to)) ⊎ Stays d name from r (changed d (turned d name from to))
turns-in d name from to r c None of is guest given turns = inr (record {
  why = _;
  reply = is;
  refusal = dir.NoSuchGuest;
  given = given;
  after_is = ap (changed d) turns;
})
turns-in d name from to r c (Some e) of is guest given turns = turns-at d name from to r c e (is_stage e.stage from) of refl is guest given turns

pub stage-cases : (d : DirState) (name : List ℕ) (from : Stage) (to : Option Stage) (r : Reply) (c : Carry)
    → DirAgrees d (step.Stage (record { name = name; from = from; to = to })) r c
    → Turns d name from to r c (changed d (turned d name from to)) ⊎ Stays d name from r (changed d (turned d name from to))
stage-cases d name from to r c agreed = turns-in d name from to r c (entry_of d name) refl agreed.0 agreed.1 refl refl

-- a guest that a step by guest needs at a stage

pub record IsAdmitted (d : DirState) (name : List ℕ) (stage : Stage) (guest : Generation) : Type 0 where
  pub entry : Entry
  pub of : entry_of d name ≡ Some entry
  pub at_stage : entry.stage ≡ stage
  pub is : guest ≡ generation_of (entry.slot, entry.birth)

same-generation : (one other : Generation) → Some one ≡ Some other → one ≡ other
same-generation one other is = same_Some one other is

admits-at : (d : DirState) (name : List ℕ) (stage : Stage) (row : ℕ) (e : Entry) (b : Bool) (g : Generation) (refused : Refusal → Reply) (r : Reply) (c : Carry)
    → entry_of d name ≡ Some e → is_stage e.stage stage ≡ b
    → Admits (with_region (Some row) (admitted (cond b (Ok (e.slot, e.birth)) (Err (dir.GuestState e.stage))))) (Some g) refused r c → IsAdmitted d name stage g
admits-at d name stage row e true g refused r c of at shown = record {
  entry = e;
  of = of;
  at_stage = same-stage e.stage stage at;
  is = same-generation g (generation_of (e.slot, e.birth)) shown;
}
admits-at d name stage row e false g refused r c of at shown = absurd (let no = shown.0 in cc)

admits-in : (d : DirState) (name : List ℕ) (stage : Stage) (row : ℕ) (o : Option Entry) (g : Generation) (refused : Refusal → Reply) (r : Reply) (c : Carry)
    → entry_of d name ≡ o
    → Admits (with_region (Some row) (admitted (if_at stage (λ guest. (guest.slot, guest.birth)) o))) (Some g) refused r c → IsAdmitted d name stage g
admits-in d name stage row None g refused r c of shown = absurd (let no = shown.0 in cc)
admits-in d name stage row (Some e) g refused r c of shown = admits-at d name stage row e (is_stage e.stage stage) g refused r c of refl shown

pub admits : (d : DirState) (name : List ℕ) (stage : Stage) (row : ℕ) (g : Generation) (refused : Refusal → Reply) (r : Reply) (c : Carry)
    → Admits (with_region (Some row) (guest_in d name stage)) (Some g) refused r c → IsAdmitted d name stage g
admits d name stage row g refused r c shown = admits-in d name stage row (entry_of d name) g refused r c refl shown

-- a guest at its stage is admitted
pub stage-self : (stage : Stage) → is_stage stage stage ≡ true
stage-self Making = refl
stage-self Made = refl
stage-self Ending = refl

pub is-given : (d : DirState) (name : List ℕ) (e : Entry) → entry_of d name ≡ Some e → guest_at d name e.stage ≡ Ok (e.slot, e.birth)
is-given d name e of =
    ap (λ (o : Option Entry). if_at e.stage (λ guest. (guest.slot, guest.birth)) o) of
    ∙ ap (λ (b : Bool). cond b (Ok (e.slot, e.birth)) (Err (dir.GuestState e.stage))) (stage-self e.stage)

-- what is put at a slot keeps entries in their slots, and names apart

some-entry : (e f : Entry) → Some e ≡ Some f → e ≡ f
some-entry e f is = same_Some e f is

pub keeps-directory : (d : DirState) (i : ℕ) (x o : Option Entry) (granted : ℕ) → IsDirectory d → slice_get d.entries i ≡ Some x
    → ((e : Entry) → o ≡ Some e → (e.slot ≡ i) × ((k : ℕ) (f : Entry) → (i ≡ k → ⊥) → entry_at d k ≡ Some f → f.name ≡ e.name → ⊥))
    → IsDirectory (record { entries = set d.entries i o; granted = granted })
keeps-directory d i x o granted ok is put =
    let after : DirState = record { entries = set d.entries i o; granted = granted } in
    let here : entry_at after i ≡ o = at-put d i x o granted is in
    let else : (k : ℕ) → (i ≡ k → ⊥) → entry_at after k ≡ entry_at d k = λ k other. at-else d i k o granted other in
    record {
      placed = λ k e at. elim (equal-or i k) [
        | inl same ↦ (put e (sym here ∙ ap (entry_at after) same ∙ at)).0 ∙ same
        | inr other ↦ ok.placed k e (sym (else k other) ∙ at)
      ];
      distinct = λ j k e f one two same. elim (equal-or i j) [
        | inl is-j ↦ elim (equal-or i k) [
          | inl is-k ↦ sym is-j ∙ is-k
          | inr not-k ↦ absurd ((put e (sym here ∙ ap (entry_at after) is-j ∙ one)).1 k f not-k (sym (else k not-k) ∙ two) (sym same))
        ]
        | inr not-j ↦ elim (equal-or i k) [
          | inl is-k ↦ absurd ((put f (sym here ∙ ap (entry_at after) is-k ∙ two)).1 j e not-j (sym (else j not-j) ∙ one) same)
          | inr not-k ↦ ok.distinct j k e f (sym (else j not-j) ∙ one) (sym (else k not-k) ∙ two) same
        ]
      ];
    }

pub claims-keep : (d : DirState) (name : List ℕ) (r : Reply) (after : DirState) → IsDirectory d → Claims d name r after → IsDirectory after
claims-keep d name r after ok claims =
    let new = new_guest d name claims.slot in
    subst IsDirectory (sym claims.after_is) (keeps-directory d claims.slot None (Some new) _ ok claims.free
    (λ e is.
    let same : new ≡ e = some-entry new e is in (
      sym (ap (λ (x : Entry). x.slot) same),
      λ k f other at called. unused-name d name k f claims.unused at (called ∙ sym (ap (λ (x : Entry). x.name) same)),
    )))

next-of : (to : Option Stage) (e f : Entry) → at_next to e ≡ Some f → (f.slot ≡ e.slot) × (f.name ≡ e.name)
next-of None e f is = absurd (cc is)
next-of (Some stage) e f is =
    let same = some-entry (record e { stage = stage }) f is in
    (sym (ap (λ (x : Entry). x.slot) same), sym (ap (λ (x : Entry). x.name) same))

pub turns-keep : (d : DirState) (name : List ℕ) (from : Stage) (to : Option Stage) (r : Reply) (c : Carry) (after : DirState) → IsDirectory d
    → Turns d name from to r c after → IsDirectory after
turns-keep d name from to r c after ok turns =
    let e = turns.entry in
    let at = named-stands d name e ok turns.of in
    subst IsDirectory (sym turns.after_is) (keeps-directory d e.slot (Some e) (at_next to e) _ ok (stands d e.slot e at.at)
    (λ f is.
    let same = next-of to e f is in
    (same.0, λ k g other there called. other (ok.distinct e.slot k e g at.at there (sym (called ∙ same.1))))))

no-entry : (n k : ℕ) (e : Entry) → option_flatten (slice_get (replicate n None) k) ≡ Some e → ⊥
no-entry zero k e is = cc
no-entry (suc n) zero e is = cc
no-entry (suc n) (suc k) e is = no-entry n k e is

pub starts-directory : IsDirectory no_guests
starts-directory = record {
  placed = λ k e at. absurd (no-entry SLOTS k e at);
  distinct = λ j k e f one two same. absurd (no-entry SLOTS j e one);
}
