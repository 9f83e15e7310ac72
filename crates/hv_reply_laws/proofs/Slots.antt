-- The slots of guests are those of the board.
use Rattle.std.proofs.Common.{◌≡◌, ℕ, ◌<◌, Bool, true, false, cond, refl, sym, ap, subst, ◌∙◌, List, [], ◌∷◌, length, Option, None, Some, Result, Ok, Err, option_map, option_and_then, slice_get, is_none, is_some, position, arith}
use Rattle.std.specs.Option.{option_flatten, ok_or}
use Rattle.std.specs.Result.{result_ok}
use Rattle.std.proofs.lemmas.Option.{same_Some, slice_get_within}
use Rattle.std.proofs.lemmas.List.Quantifiers.{position-Some}
use Rattle.hv_answer.specs.declared.reply.Reply.TheVariants as reply
use Rattle.hv_dir.specs.Directory.{AreEntries, DirState, claimed, entry_at, entry_of, free_slot, granted_in, guest_at, if_at, is_stage, slot_of}
use Rattle.hv_dir.specs.declared.entry.Entry.{Entry}
use Rattle.hv_dir.specs.declared.refusal.DirRefusal.{DirRefusal}
use Rattle.hv_dir.specs.declared.refusal.DirRefusal.TheVariants as dir
use Rattle.hv_kinds.specs.declared.generation.Generation.{Generation}
use Rattle.hv_kinds.specs.declared.stage.Stage.{Stage}
use Rattle.hv_programs.specs.Line.{GivesSlot, IsGiven, IsGuest}
use Rattle.hv_refusal.specs.declared.refusal.Refusal.{Refusal}
use Rattle.hv_rules.specs.Dir.{admitted, generation_of, guest_in, named, refusal_of}
use Rattle.hv_text.specs.declared.limits.TheConstants.{SLOTS}

flat-some : (o : Option (Option Entry)) (e : Entry) → option_flatten o ≡ Some e → o ≡ Some (Some e)
flat-some None e is = absurd (cc is)
flat-some (Some None) e is = absurd (cc is)
flat-some (Some (Some f)) e is = ap (λ (x : Entry). Some (Some x)) (same_Some f e is)

-- an entry that stands somewhere has a slot of the board
entry-below : (d : DirState) (k : Option ℕ) (e : Entry) → AreEntries d.entries → option_and_then (entry_at d) k ≡ Some e → e.slot < SLOTS
entry-below d None e are is = absurd (cc is)
entry-below d (Some k) e are is =
    let stands = flat-some (slice_get d.entries k) e is in
    let within : k < length d.entries = slice_get_within d.entries k (Some e) stands in
    let below : k < SLOTS = subst (λ n. k < n) are.long within in
    subst (λ n. n < SLOTS) (sym (are.placed k e stands)) below

at-below : (d : DirState) (stage : Stage) (found : Option Entry) (g : ℕ × ℕ) → ((e : Entry) → found ≡ Some e → e.slot < SLOTS)
    → if_at stage (λ guest. (guest.slot, guest.birth)) found ≡ Ok g → g.0 < SLOTS
at-below d stage None g all is = absurd (cc is)
at-below d stage (Some e) g all is = by (is_stage e.stage stage) is
  where
    by : (b : Bool) → cond b (Ok (e.slot, e.birth)) (Err (dir.GuestState e.stage)) ≡ Ok g → g.0 < SLOTS
    by true is = let same : (e.slot, e.birth) ≡ g = cc is in subst (λ (n : ℕ × ℕ). n.0 < SLOTS) same (all e refl)
    by false is = absurd (cc is)

-- so has a guest that the directory gives
pub guest-below : (d : DirState) (name : List ℕ) (stage : Stage) (g : ℕ × ℕ) → AreEntries d.entries → guest_at d name stage ≡ Ok g → g.0 < SLOTS
guest-below d name stage g are is = at-below d stage (entry_of d name) g (λ e there. entry-below d (slot_of d name) e are there) is

admitted-below : (given : Result (ℕ × ℕ) DirRefusal) (g : Generation) → ((guest : ℕ × ℕ) → given ≡ Ok guest → guest.0 < SLOTS) → admitted given ≡ Ok g → g.slot < SLOTS
admitted-below (Ok guest) g all is = let same : generation_of guest ≡ g = cc is in subst (λ (x : Generation). x.slot < SLOTS) same (all guest refl)
admitted-below (Err why) g all is = absurd (cc is)

pub given-below : (d : DirState) (name : List ℕ) (stage : Stage) (g : Generation) → AreEntries d.entries → guest_in d name stage ≡ Ok g → g.slot < SLOTS
given-below d name stage g are is = admitted-below (guest_at d name stage) g (λ guest there. guest-below d name stage guest are there) is

-- and one that is turned
turned-of : (given : Result (ℕ × ℕ) DirRefusal) → ((guest : ℕ × ℕ) → given ≡ Ok guest → guest.0 < SLOTS) → IsGuest (result_ok given)
turned-of (Ok guest) all = all guest refl
turned-of (Err why) all = tt

pub turned-below : (d : DirState) (name : List ℕ) (stage : Stage) → AreEntries d.entries → IsGuest (result_ok (guest_at d name stage))
turned-below d name stage are = turned-of (guest_at d name stage) (λ guest there. guest-below d name stage guest are there)

-- a claim gives a free slot
free-below : (d : DirState) (k : ℕ) → AreEntries d.entries → free_slot d ≡ Some k → k < SLOTS
free-below d k are is = subst (λ n. k < n) are.long (position-Some is_none d.entries k None is).0

claim-of : (d : DirState) (name : List ℕ) (used : Bool) (slot : Option ℕ) → ((k : ℕ) → slot ≡ Some k → k < SLOTS)
    → GivesSlot (reply.Name (named None (cond used (Err dir.NameUsed) (ok_or (option_map (λ k. (granted_in d name k, (k, d.granted))) slot) dir.NoSlot))))
claim-of d name true slot all = tt
claim-of d name false None all = tt
claim-of d name false (Some k) all = all k refl

pub claim-below : (d : DirState) (name : List ℕ) (stopped : Option Refusal) → AreEntries d.entries → GivesSlot (reply.Name (named stopped (claimed d name)))
claim-below d name (Some why) are = tt
claim-below d name None are = claim-of d name (is_some (slot_of d name)) (free_slot d) (λ k is. free-below d k are is)
