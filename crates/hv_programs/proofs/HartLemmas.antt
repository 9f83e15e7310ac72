-- What a hart keeps lets it make its next step, and is kept by it.
use Rattle.std.proofs.Common.{◌≡◌, ℕ, zero, suc, ◌+◌, ◌-◌, ◌/◌, ◌%◌, ◌<◌, ◌≤◌, Bool, true, false, ◌==◌, List, [], ◌∷◌, ◌++◌, refl, ap, sym, subst, arith, if◌then◌else◌}
use Rattle.std.specs.Prelude.{Option, None, Some, Ok, ◌&&◌, not}
use Rattle.std.specs.Option.{IfSome}
use Rattle.std.specs.List.{All, list_all}
use Rattle.std.proofs.Math.Nat.{mod-lt}
use Rattle.std.proofs.lemmas.List.Elements.{All-nil, All-head, All-tail, All-append}
use Rattle.hv_answer.specs.declared.reply.Outcome.{Outcome}
use Rattle.hv_answer.specs.declared.reply.Outcome.TheVariants as outcome
use Rattle.hv_answer.specs.declared.reply.Reply.{Reply}
use Rattle.hv_answer.specs.declared.reply.Reply.TheVariants as reply
use Rattle.hv_kinds.specs.declared.access.AccessKind.{AccessKind}
use Rattle.hv_kinds.specs.declared.access.AccessKind.TheVariants as access
use Rattle.hv_kinds.specs.declared.generation.Generation.{Generation}
use Rattle.hv_rules.specs.Carry.{Carry, Pending, load, store}
use Rattle.hv_rules.specs.Hart.{HartState, Current, Row, owes, waits, ends, ticks, free, runs, waits_for, with_current, turn_row, pending_row, owed_row, row_of, slot_of, IsAccess, IsPendingFault, FitsPending, FitsFree, FitsRun, FitsCurrent, Fits, HartAgrees, hart_after, used_up, faulted, fetched, pended, ticked_signals, without_first, IsWithinItsSlice}
use Rattle.hv_rules.specs.Owed.{owed_for}
use Rattle.hv_rules.specs.Vcpu.{IsPending}
use Rattle.hv_rules.proofs.Slices.{is_signal, within-kept}
use Rattle.hv_step.specs.declared.step.Access.{Access}
use Rattle.hv_step.specs.declared.step.Fault.{Fault}
use Rattle.hv_step.specs.declared.step.Step.{Step}
use Rattle.hv_step.specs.declared.step.Step.TheVariants as step
use Rattle.hv_text.specs.declared.limits.TheConstants.{GUEST_VCPUS, SLOTS, VCPUS}
use Rattle.hv_programs.specs.Hart.{HasSlice, HasSliceFor, MayMake, IsWaiting, IsHart, Brings, at_start}
use Rattle.hv_programs.specs.Owed.{IsOwed, IsSampleOwed}
use Rattle.hv_programs.proofs.OwedLemmas.{all-owed, ticked-owed, paid-owed}

-- what a row says of the hart whose it is
abbrev Says : HartState → Row → Type 0
Says hart (owes next) = IsOwed next
Says hart (waits vcpu pending generation) = hart.pending ≡ Some (pending, generation)
Says hart ends = Unit {0}
Says hart (ticks slot) = slot < SLOTS
Says hart free = (hart.pending ≡ None) × (0 < hart.left)
Says hart (runs current) = (hart.current ≡ Some current) × (hart.pending ≡ None) × (0 < hart.left)

-- a hart that can use a turn of its slice
abbrev CanUse : HartState → Type 0
CanUse hart = (hart.pending ≡ None) × (0 < hart.left) × HasSlice hart.current

abbrev CanFault : HartState → AccessKind → Type 0
CanFault hart access.Execute = CanUse hart
CanFault hart _ = 0 < hart.left

-- what a hart has for a step
abbrev Has : HartState → Step → Type 0
Has hart (step.Sample s) = IsSampleOwed s
Has hart (step.Tick s) = s.slot < SLOTS
Has hart (step.Idle s) = (hart.pending ≡ None) × (0 < hart.left)
Has hart (step.Dispatch s) = (hart.pending ≡ None) × (0 < hart.left)
Has hart (step.Preempt s) = 0 < hart.left
Has hart (step.Leave s) = 0 < hart.left
Has hart (step.Take s) = CanUse hart
Has hart (step.Balance s) = CanUse hart
Has hart (step.Fetch s) = CanUse hart × (s.generation.slot < SLOTS)
Has hart (step.Access s) = (0 < hart.left) × (s.generation.slot < SLOTS)
Has hart (step.Fault s) = CanFault hart s.access
Has hart _ = Unit {0}

less : (n m : ℕ) → n ≤ m → (n == m) ≡ false → n < m
less n m l apart = grind arith

slot-below : (v : ℕ) → v < VCPUS → slot_of v < SLOTS
slot-below v l = omega arith

-- a hart that is not waiting for an access
none-waits : (left : ℕ) (pending : Option (Pending × Generation)) → pending ≡ None → IfSome pending (IsWaiting left)
none-waits left None is = tt
none-waits left (Some waiting) is = absurd (cc)

some-waits : (left : ℕ) (pending : Option (Pending × Generation)) (waiting : Pending × Generation) → pending ≡ Some waiting → IfSome pending (IsWaiting left) → IsWaiting left waiting
some-waits left None waiting is waits' = absurd (cc)
some-waits left (Some own) waiting is waits' = let same : own ≡ waiting = cc in subst (IsWaiting left) same waits'

some-vcpu : (now : Option Current) (current : Current) → now ≡ Some current → IfSome now (λ k. k.vcpu < VCPUS) → current.vcpu < VCPUS
some-vcpu None current is below = absurd (cc)
some-vcpu (Some own) current is below = let same : own ≡ current = cc in subst (λ k. k.vcpu < VCPUS) same below

slice-left : (now : Option Current) (current : Current) → now ≡ Some current → current.used ≤ current.slice → (current.used == current.slice) ≡ false → HasSlice now
slice-left None current is most apart = tt
slice-left (Some own) current is most apart =
    let same : current ≡ own = cc in subst (λ k. k.used < k.slice) same (less current.used current.slice most apart)

module _ (n : ℕ) (hart : HartState) (J : IsHart hart) where
  current-says : (now : Option Current) → hart.current ≡ now → hart.pending ≡ None → 0 < hart.left → Says hart (with_current now)
  current-says None is none left = (none, left)
  current-says (Some current) is none left = (is, none, left)

  turn-says : (left : ℕ) → hart.left ≡ left → hart.pending ≡ None → Says hart (turn_row n hart left)
  turn-says zero is none = tt
  turn-says (suc left) is none =
      elim ((n == 0) && not hart.ticked) as (λ b. Says hart (if b then ticks (hart.turns % SLOTS) else with_current hart.current)) [
        | true ↦ mod-lt hart.turns (omega arith)
        | false ↦ current-says hart.current refl none (omega arith)
      ]

  waits-says : (now : Option Current) (waiting : Pending × Generation) → hart.current ≡ now → hart.pending ≡ Some waiting → Says hart (waits_for now waiting.0 waiting.1)
  waits-says None waiting is some = absurd (none-some hart.pending (J.within.pending is) some)
    where
      none-some : (o : Option (Pending × Generation)) → o ≡ None → o ≡ Some waiting → ⊥
      none-some o p q = cc
  waits-says (Some current) waiting is some = some

  pending-says : (pending : Option (Pending × Generation)) → hart.pending ≡ pending → Says hart (pending_row n hart pending)
  pending-says None is = turn-says hart.left refl is
  pending-says (Some waiting) is = waits-says hart.current waiting refl is

  owed-says : (owed : List Step) → All IsOwed owed → Says hart (owed_row n hart owed)
  owed-says [] all = pending-says hart.pending refl
  owed-says (s ∷ later) all = All-head IsOwed s later all

  owed-has : (s : Step) → IsOwed s → Has hart s
  owed-has (step.Sample s) is = is
  owed-has (step.Pin s) is = tt
  owed-has _ is = absurd is

  access-has : (vcpu : ℕ) (pending : Pending) (generation : Generation) (s : Access) (c : Carry) → IsAccess vcpu pending generation s c → s.generation ≡ generation
  access-has vcpu (load address size is_signed register) generation s c is = ap (λ a. a.generation) is.0
  access-has vcpu (store address size value) generation s c is = ap (λ a. a.generation) is.0

  fault-has : (vcpu : ℕ) (pending : Pending) (generation : Generation) (s : Fault) → 0 < hart.left → IsPendingFault vcpu pending generation s → CanFault hart s.access
  fault-has vcpu (load address size is_signed register) generation s left is = subst (CanFault hart) (sym (ap (λ f. f.access) is)) left
  fault-has vcpu (store address size value) generation s left is = subst (CanFault hart) (sym (ap (λ f. f.access) is)) left

  waits-has : (vcpu : ℕ) (pending : Pending) (generation : Generation) (s : Step) (c : Carry) → IsWaiting hart.left (pending, generation) → FitsPending vcpu pending generation s c → Has hart s
  waits-has vcpu pending generation (step.Leave s) c is fits = is.turn
  waits-has vcpu pending generation (step.Access s) c is fits =
      (is.turn, subst (λ g. g.slot < SLOTS) (sym (access-has vcpu pending generation s c fits)) is.slot)
  waits-has vcpu pending generation (step.Fault s) c is fits = fault-has vcpu pending generation s is.turn fits
  waits-has vcpu pending generation _ c is fits = absurd fits

  free-has : (s : Step) → (hart.pending ≡ None) × (0 < hart.left) → FitsFree s → Has hart s
  free-has (step.Dispatch s) says fits = says
  free-has (step.Idle s) says fits = says
  free-has _ says fits = absurd fits

  run-has : (v : ℕ) (s : Step) (c : Carry) → CanUse hart → v < VCPUS → FitsRun hart.harts v s c → Has hart s
  run-has zero (step.Balance s) c can below fits = can
  run-has zero _ c can below fits = absurd fits
  run-has (suc v) (step.Take s) c can below fits = can
  run-has (suc v) (step.Fetch s) c can below fits = (can, subst (λ k. k < SLOTS) (sym fits.1) (slot-below (suc v) below))
  run-has (suc v) (step.Fault s) c can below fits = subst (CanFault hart) (sym fits.3) can
  run-has (suc v) _ c can below fits = absurd fits

  current-has : (current : Current) (s : Step) (c : Carry) → (hart.current ≡ Some current) × (hart.pending ≡ None) × (0 < hart.left) → FitsCurrent hart.harts current s c → Has hart s
  current-has current (step.Leave s) c says fits = says.2
  current-has current (step.Preempt s) c says fits = says.2
  current-has current s c says fits =
      run-has current.vcpu s c (says.1, says.2, slice-left hart.current current says.0 (J.within.used current says.0) fits.0)
      (some-vcpu hart.current current says.0 J.vcpu) fits.1

  row-has : (row : Row) (s : Step) (c : Carry) → Says hart row → Fits hart.harts row s c → Has hart s
  row-has (owes next) s c says fits = owed-has s (subst IsOwed (sym fits) says)
  row-has (waits vcpu pending generation) s c says fits = waits-has vcpu pending generation s c (some-waits hart.left hart.pending (pending, generation) says J.pending) fits
  row-has ends s c says fits = absurd fits
  row-has (ticks slot) s c says fits = subst (Has hart) (sym fits) says
  row-has free s c says fits = free-has s says fits
  row-has (runs current) s c says fits = current-has current s c says fits

  has : (s : Step) (c : Carry) → HartAgrees n hart s c → Has hart s
  has s c agrees = row-has (row_of n hart) s c (owed-says hart.owed J.owed) agrees.0

  may-fault : (kind : AccessKind) → CanFault hart kind → (0 < hart.left) × HasSliceFor hart.current kind
  may-fault access.Execute can = (can.1, can.2)
  may-fault access.Read can = (can, tt)
  may-fault access.Write can = (can, tt)

  may : (s : Step) → Has hart s → MayMake hart s
  may (step.Sample s) h = h.slot
  may (step.Tick s) h = h
  may (step.Idle s) h = h.1
  may (step.Dispatch s) h = h.1
  may (step.Preempt s) h = h
  may (step.Leave s) h = h
  may (step.Take s) h = (h.1, h.2)
  may (step.Balance s) h = (h.1, h.2)
  may (step.Fetch s) h = (h.0.1, h.0.2)
  may (step.Access s) h = h
  may (step.Fault s) h = may-fault s.access h
  may _ h = tt

  pub may-make : (s : Step) (c : Carry) → HartAgrees n hart s c → MayMake hart s
  may-make s c agrees = may s (has s c agrees)

  -- of the VCPU that a step leaves
  used-vcpu : (now : Option Current) → IfSome now (λ k. k.vcpu < VCPUS) → IfSome (used_up now) (λ k. k.vcpu < VCPUS)
  used-vcpu None below = tt
  used-vcpu (Some current) below = below

  fetched-vcpu : (generation : Generation) (o : Outcome) (c : Carry) → IfSome (fetched hart generation o c).current (λ k. k.vcpu < VCPUS)
  fetched-vcpu generation outcome.Access c = used-vcpu hart.current J.vcpu
  fetched-vcpu generation outcome.Wait c = tt
  fetched-vcpu generation outcome.Done c = used-vcpu hart.current J.vcpu
  fetched-vcpu generation (outcome.Trap cause) c = used-vcpu hart.current J.vcpu

  faulted-vcpu : (kind : AccessKind) → IfSome (faulted hart kind).current (λ k. k.vcpu < VCPUS)
  faulted-vcpu access.Execute = used-vcpu hart.current J.vcpu
  faulted-vcpu access.Read = J.vcpu
  faulted-vcpu access.Write = J.vcpu

  vcpu-kept : (s : Step) (r : Reply) (c : Carry) → Brings s c → IfSome (hart_after hart s r c).current (λ k. k.vcpu < VCPUS)
  vcpu-kept (step.Sample s) (reply.Sample None) c b = J.vcpu
  vcpu-kept (step.Sample s) (reply.Sample (Some sampled)) c b = J.vcpu
  vcpu-kept (step.Tick s) (reply.Tick None) c b = J.vcpu
  vcpu-kept (step.Tick s) (reply.Tick (Some changes)) c b = J.vcpu
  vcpu-kept (step.Dispatch s) (reply.Dispatch (Ok slice)) c b = b
  vcpu-kept (step.Dispatch s) r c b = J.vcpu
  vcpu-kept (step.Preempt s) r c b = tt
  vcpu-kept (step.Leave s) r c b = tt
  vcpu-kept (step.Take s) r c b = used-vcpu hart.current J.vcpu
  vcpu-kept (step.Balance s) r c b = used-vcpu hart.current J.vcpu
  vcpu-kept (step.Fetch s) (reply.Fetch None) c b = used-vcpu hart.current J.vcpu
  vcpu-kept (step.Fetch s) (reply.Fetch (Some done)) c b = fetched-vcpu s.generation done.outcome c
  vcpu-kept (step.Access s) (reply.Access None) c b = J.vcpu
  vcpu-kept (step.Access s) (reply.Access (Some accessed)) c b = J.vcpu
  vcpu-kept (step.Fault s) r c b = faulted-vcpu s.access
  vcpu-kept s r c b = J.vcpu

  -- of the access that waits
  pended-waits : (generation : Generation) (pending : Option Pending) → 0 < hart.left → generation.slot < SLOTS → IfSome pending IsPending
      → IfSome (pended pending generation) (IsWaiting hart.left)
  pended-waits generation None left slot is = tt
  pended-waits generation (Some pending) left slot is = record { turn = left; slot = slot; access = is }

  fetched-waits : (generation : Generation) (o : Outcome) (c : Carry) → CanUse hart × (generation.slot < SLOTS) → IfSome c.pending IsPending
      → IfSome (fetched hart generation o c).pending (IsWaiting (fetched hart generation o c).left)
  fetched-waits generation outcome.Access c h is = pended-waits generation c.pending h.0.1 h.1 is
  fetched-waits generation outcome.Wait c h is = tt
  fetched-waits generation outcome.Done c h is = none-waits (hart.left - 1) hart.pending h.0.0
  fetched-waits generation (outcome.Trap cause) c h is = none-waits (hart.left - 1) hart.pending h.0.0

  faulted-waits : (kind : AccessKind) → CanFault hart kind → IfSome (faulted hart kind).pending (IsWaiting (faulted hart kind).left)
  faulted-waits access.Execute h = none-waits (hart.left - 1) hart.pending h.0
  faulted-waits access.Read h = tt
  faulted-waits access.Write h = tt

  waits-kept : (s : Step) (r : Reply) (c : Carry) → Has hart s → Brings s c → IfSome (hart_after hart s r c).pending (IsWaiting (hart_after hart s r c).left)
  waits-kept (step.Sample s) (reply.Sample None) c h b = J.pending
  waits-kept (step.Sample s) (reply.Sample (Some sampled)) c h b = J.pending
  waits-kept (step.Tick s) (reply.Tick None) c h b = J.pending
  waits-kept (step.Tick s) (reply.Tick (Some changes)) c h b = J.pending
  waits-kept (step.Idle s) r c h b = none-waits (hart.left - 1) hart.pending h.0
  waits-kept (step.Dispatch s) (reply.Dispatch (Ok slice)) c h b = none-waits (hart.left - 1) hart.pending h.0
  waits-kept (step.Dispatch s) r c h b = none-waits (hart.left - 1) hart.pending h.0
  waits-kept (step.Preempt s) r c h b = tt
  waits-kept (step.Leave s) r c h b = tt
  waits-kept (step.Take s) r c h b = none-waits (hart.left - 1) hart.pending h.0
  waits-kept (step.Balance s) r c h b = none-waits (hart.left - 1) hart.pending h.0
  waits-kept (step.Fetch s) (reply.Fetch None) c h b = none-waits (hart.left - 1) hart.pending h.0.0
  waits-kept (step.Fetch s) (reply.Fetch (Some done)) c h b = fetched-waits s.generation done.outcome c h b
  waits-kept (step.Access s) (reply.Access None) c h b = tt
  waits-kept (step.Access s) (reply.Access (Some accessed)) c h b = tt
  waits-kept (step.Fault s) r c h b = faulted-waits s.access h
  waits-kept s r c h b = J.pending

  -- of the steps that are owed
  fetched-owed : (generation : Generation) (o : Outcome) (c : Carry) → All IsOwed (fetched hart generation o c).owed
  fetched-owed generation outcome.Access c = J.owed
  fetched-owed generation outcome.Wait c = J.owed
  fetched-owed generation outcome.Done c = J.owed
  fetched-owed generation (outcome.Trap cause) c = J.owed

  faulted-owed : (kind : AccessKind) → All IsOwed (faulted hart kind).owed
  faulted-owed access.Execute = J.owed
  faulted-owed access.Read = J.owed
  faulted-owed access.Write = J.owed

  owed-kept : (s : Step) (r : Reply) (c : Carry) → Has hart s → Brings s c → All IsOwed (hart_after hart s r c).owed
  owed-kept (step.Sample s) (reply.Sample None) c h b = paid-owed hart.owed J.owed
  owed-kept (step.Sample s) (reply.Sample (Some sampled)) c h b =
      All-append IsOwed (without_first hart.owed) (owed_for s.generation s.parent None sampled.changes)
      (paid-owed hart.owed J.owed) (all-owed s.generation s.parent h.slot h.parent None sampled.changes tt)
  owed-kept (step.Pin s) r c h b = paid-owed hart.owed J.owed
  owed-kept (step.Tick s) (reply.Tick None) c h b = J.owed
  owed-kept (step.Tick s) (reply.Tick (Some changes)) c h b =
      All-append IsOwed hart.owed (ticked_signals s.slot c.clock c.parent changes) J.owed (ticked-owed s.slot c.clock c.parent changes h b)
  owed-kept (step.Dispatch s) (reply.Dispatch (Ok slice)) c h b = J.owed
  owed-kept (step.Dispatch s) r c h b = J.owed
  owed-kept (step.Fetch s) (reply.Fetch None) c h b = J.owed
  owed-kept (step.Fetch s) (reply.Fetch (Some done)) c h b = fetched-owed s.generation done.outcome c
  owed-kept (step.Access s) (reply.Access None) c h b = J.owed
  owed-kept (step.Access s) (reply.Access (Some accessed)) c h b =
      All-append IsOwed hart.owed (owed_for s.generation s.row c.parent accessed.changes) J.owed
      (all-owed s.generation s.row h.1 b.0 c.parent accessed.changes b.1)
  owed-kept (step.Fault s) r c h b = faulted-owed s.access
  owed-kept s r c h b = J.owed

  owed-signal : (s : Step) → IsOwed s → is_signal s ≡ true
  owed-signal (step.Sample s) is = refl
  owed-signal (step.Pin s) is = refl
  owed-signal _ is = absurd is

  both : (a b : Bool) → a ≡ true → b ≡ true → (a && b) ≡ true
  both a b p q = rw (p, q) refl

  signals : (owed : List Step) → All IsOwed owed → list_all is_signal owed ≡ true
  signals [] all = refl
  signals (s ∷ later) all =
      both (is_signal s) (list_all is_signal later) (owed-signal s (All-head IsOwed s later all)) (signals later (All-tail IsOwed s later all))

  pub hart-kept : (s : Step) (r : Reply) (c : Carry) → HartAgrees n hart s c → Brings s c → IsHart (hart_after hart s r c)
  hart-kept s r c agrees brings = record {
    within = within-kept n hart (signals hart.owed J.owed) J.within s r c agrees;
    vcpu = vcpu-kept s r c brings;
    pending = waits-kept s r c (has s c agrees) brings;
    owed = owed-kept s r c (has s c agrees) brings;
  }

-- at the start
pub hart-starts : (harts turns : ℕ) → IsHart (at_start harts turns)
hart-starts harts turns = record {
  within = record { pending = λ none. refl; used = λ current is. absurd (none-some current is) };
  vcpu = tt;
  pending = tt;
  owed = All-nil IsOwed;
}
  where
    none-some : (current : Current) → None ≡ Some current → ⊥
    none-some current is = cc
