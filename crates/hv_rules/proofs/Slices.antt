-- A hart uses no more of a slice than there is, and waits for an access only with a VCPU.
use Rattle.std.proofs.Common.{◌≡◌, ℕ, zero, suc, ◌+◌, ◌≤◌, Bool, true, false, ◌==◌, List, [], ◌∷◌, refl, ap, sym, ◌∙◌, subst, arith, if◌then◌else◌}
use Rattle.std.specs.Prelude.{Option, None, Some, Ok, ◌&&◌, not, ◌%◌}
use Rattle.std.specs.List.{list_all}
use Rattle.hv_answer.specs.declared.reply.Outcome.{Outcome}
use Rattle.hv_answer.specs.declared.reply.Outcome.TheVariants as outcome
use Rattle.hv_answer.specs.declared.reply.Reply.{Reply}
use Rattle.hv_answer.specs.declared.reply.Reply.TheVariants as reply
use Rattle.hv_kinds.specs.declared.access.AccessKind.{AccessKind}
use Rattle.hv_kinds.specs.declared.access.AccessKind.TheVariants as access
use Rattle.hv_kinds.specs.declared.generation.Generation.{Generation}
use Rattle.hv_rules.specs.Carry.{Carry, Pending, load, store}
use Rattle.hv_rules.specs.Hart.{HartState, Current, Row, owes, waits, ends, ticks, free, runs, waits_for, with_current, turn_row, pending_row, owed_row, row_of, FitsPending, FitsFree, FitsCurrent, Fits, HartAgrees, hart_after, used_up, faulted, fetched, IsPendingFault, IsWithinItsSlice}
use Rattle.hv_step.specs.declared.step.Fault.{Fault}
use Rattle.hv_step.specs.declared.step.Step.{Step}
use Rattle.hv_step.specs.declared.step.Step.TheVariants as step
use Rattle.hv_text.specs.declared.limits.TheConstants.{SLOTS}

-- the steps that harts owe
abbrev pub is_signal : Step → Bool
is_signal (step.Sample s) = true
is_signal (step.Pin s) = true
is_signal _ = false

pub first-signal : (a b : Bool) → (a && b) ≡ true → a ≡ true
first-signal true b is = refl
first-signal false b is = absurd (cc)

true-false : (b : Bool) → b ≡ true → b ≡ false → ⊥
true-false b p q = cc

-- the steps that use the slice
abbrev is_execute : AccessKind → Bool
is_execute access.Execute = true
is_execute _ = false

abbrev uses : Step → Bool
uses (step.Take s) = true
uses (step.Fetch s) = true
uses (step.Balance s) = true
uses (step.Fault s) = is_execute s.access
uses _ = false

-- what a row says of what its hart runs
abbrev RowIs : Row → Option Current → Type 0
RowIs (owes s) now = is_signal s ≡ true
RowIs (runs current) now = now ≡ Some current
RowIs _ now = Unit {0}

waits-is : (now : Option Current) (pending : Pending) (generation : Generation) → RowIs (waits_for now pending generation) now
waits-is None pending generation = tt
waits-is (Some current) pending generation = tt

current-is : (now : Option Current) → RowIs (with_current now) now
current-is None = tt
current-is (Some current) = refl

turn-is : (n : ℕ) (hart : HartState) (left : ℕ) → RowIs (turn_row n hart left) hart.current
turn-is n hart zero = tt
turn-is n hart (suc left) =
    elim ((n == 0) && not hart.ticked) as (λ b. RowIs (if b then ticks (hart.turns % SLOTS) else with_current hart.current) hart.current) [
      | true ↦ tt
      | false ↦ current-is hart.current
    ]

pending-is : (n : ℕ) (hart : HartState) (pending : Option (Pending × Generation)) → RowIs (pending_row n hart pending) hart.current
pending-is n hart None = turn-is n hart hart.left
pending-is n hart (Some pending) = waits-is hart.current pending.0 pending.1

owed-is : (n : ℕ) (hart : HartState) (owed : List Step) → list_all is_signal owed ≡ true → RowIs (owed_row n hart owed) hart.current
owed-is n hart [] signals = pending-is n hart hart.pending
owed-is n hart (s ∷ later) signals = first-signal (is_signal s) (list_all is_signal later) signals

-- a step that uses the slice is made where some of it is left
abbrev Unspent : Option Current → Type 0
Unspent now = (k : Current) × (now ≡ Some k) × ((k.used == k.slice) ≡ false)

signal-unused : (s : Step) → is_signal s ≡ true → uses s ≡ true → ⊥
signal-unused (step.Sample s) signal use' = cc
signal-unused (step.Pin s) signal use' = cc
signal-unused _ signal use' = cc

fault-unused : (vcpu : ℕ) (pending : Pending) (generation : Generation) (s : Fault) → IsPendingFault vcpu pending generation s → is_execute s.access ≡ false
fault-unused vcpu (load address size is_signed register) generation s is = ap (λ f. is_execute f.access) is
fault-unused vcpu (store address size value) generation s is = ap (λ f. is_execute f.access) is

waits-unused : (vcpu : ℕ) (pending : Pending) (generation : Generation) (s : Step) (c : Carry) → FitsPending vcpu pending generation s c → uses s ≡ true → ⊥
waits-unused vcpu pending generation (step.Leave s) c fits use' = cc
waits-unused vcpu pending generation (step.Access s) c fits use' = cc
waits-unused vcpu pending generation (step.Fault s) c fits use' = true-false (is_execute s.access) use' (fault-unused vcpu pending generation s fits)
waits-unused vcpu pending generation _ c fits use' = fits

free-unused : (s : Step) → FitsFree s → uses s ≡ true → ⊥
free-unused (step.Dispatch s) fits use' = cc
free-unused (step.Idle s) fits use' = cc
free-unused _ fits use' = fits

current-unspent : (harts : ℕ) (current : Current) (s : Step) (c : Carry) → FitsCurrent harts current s c → uses s ≡ true → (current.used == current.slice) ≡ false
current-unspent harts current (step.Leave s) c fits use' = absurd (cc)
current-unspent harts current (step.Preempt s) c fits use' = absurd (cc)
current-unspent harts current s c fits use' = fits.0

row-unspent : (harts : ℕ) (row : Row) (now : Option Current) (s : Step) (c : Carry) → RowIs row now → Fits harts row s c → uses s ≡ true → Unspent now
row-unspent harts (owes next) now s c is fits use' = absurd (signal-unused s (ap is_signal fits ∙ is) use')
row-unspent harts (waits vcpu pending generation) now s c is fits use' = absurd (waits-unused vcpu pending generation s c fits use')
row-unspent harts ends now s c is fits use' = absurd fits
row-unspent harts (ticks slot) now s c is fits use' = absurd (true-false (uses s) use' (ap uses fits))
row-unspent harts free now s c is fits use' = absurd (free-unused s fits use')
row-unspent harts (runs current) now s c is fits use' = (current, is, current-unspent harts current s c fits use')

-- the slice once a turn more of it is used
used-more : (now after : Option Current) → after ≡ used_up now → Unspent now → ((k : Current) → now ≡ Some k → k.used ≤ k.slice) → (k : Current) → after ≡ Some k → k.used ≤ k.slice
used-more None after is unspent was k some = absurd (none-some unspent.0 unspent.1)
  where
    none-some : (k : Current) → None ≡ Some k → ⊥
    none-some k is = cc
used-more (Some old) after is unspent was k some =
    let same : unspent.0 ≡ old = some-same unspent.0 old unspent.1 in
    let apart : (old.used == old.slice) ≡ false = subst (λ c. (c.used == c.slice) ≡ false) same unspent.2 in
    let more : old.used + 1 ≤ old.slice = less old.used old.slice (was old refl) apart in
    subst (λ c. c.used ≤ c.slice) (sym (some-same k (record old { used = old.used + 1 }) (sym is ∙ some))) more
  where
    some-same : (k old : Current) → Some old ≡ Some k → k ≡ old
    some-same k old is = cc

    less : (n m : ℕ) → n ≤ m → (n == m) ≡ false → n + 1 ≤ m
    less n m l apart = grind arith

used-none : (now : Option Current) → used_up now ≡ None → now ≡ None
used-none None is = refl
used-none (Some k) is = absurd (cc)

module _ (n : ℕ) (hart : HartState) (signals : list_all is_signal hart.owed ≡ true) (J : IsWithinItsSlice hart) where
  -- the hart after a step, by what the step leaves of its VCPU and of the access
  same : (after : HartState) → after.current ≡ hart.current → after.pending ≡ hart.pending → IsWithinItsSlice after
  same after current pending = record {
    pending = λ none. pending ∙ J.pending (sym current ∙ none);
    used = λ k is. J.used k (sym current ∙ is);
  }

  answered : (after : HartState) → after.current ≡ hart.current → after.pending ≡ None → IsWithinItsSlice after
  answered after current pending = record {
    pending = λ none. pending;
    used = λ k is. J.used k (sym current ∙ is);
  }

  gone : (after : HartState) → after.current ≡ None → after.pending ≡ None → IsWithinItsSlice after
  gone after current pending = record {
    pending = λ none. pending;
    used = λ k is. absurd (none-some k (sym current ∙ is));
  }
    where
      none-some : (k : Current) → None ≡ Some k → ⊥
      none-some k is = cc

  spent : (after : HartState) → after.current ≡ used_up hart.current → after.pending ≡ hart.pending → Unspent hart.current → IsWithinItsSlice after
  spent after current pending unspent = record {
    pending = λ none. pending ∙ J.pending (used-none hart.current (sym current ∙ none));
    used = used-more hart.current after.current current unspent J.used;
  }

  waiting : (after : HartState) → after.current ≡ used_up hart.current → Unspent hart.current → IsWithinItsSlice after
  waiting after current unspent = record {
    pending = λ none. absurd (none-some hart.current unspent.0 (used-none hart.current (sym current ∙ none)) unspent.1);
    used = used-more hart.current after.current current unspent J.used;
  }
    where
      none-some : (now : Option Current) (k : Current) → now ≡ None → now ≡ Some k → ⊥
      none-some now k p q = cc

  begun : (after : HartState) (vcpu slice : ℕ) → after.current ≡ Some (record { vcpu = vcpu; slice = slice; used = 0 }) → IsWithinItsSlice after
  begun after vcpu slice current = record {
    pending = λ none. absurd (none-some after.current (record { vcpu = vcpu; slice = slice; used = 0 }) none current);
    used = λ k is. subst (λ c. c.used ≤ c.slice) (some-same (record { vcpu = vcpu; slice = slice; used = 0 }) k (sym current ∙ is)) (omega arith);
  }
    where
      none-some : (now : Option Current) (k : Current) → now ≡ None → now ≡ Some k → ⊥
      none-some now k p q = cc

      some-same : (a b : Current) → Some a ≡ Some b → a ≡ b
      some-same a b is = cc

  unspent : (s : Step) (c : Carry) → HartAgrees n hart s c → uses s ≡ true → Unspent hart.current
  unspent s c ok use' = row-unspent hart.harts (row_of n hart) hart.current s c (owed-is n hart hart.owed signals) ok.0 use'

  fetched-within : (generation : Generation) (o : Outcome) (c : Carry) → Unspent hart.current → IsWithinItsSlice (fetched hart generation o c)
  fetched-within generation outcome.Access c left = waiting (fetched hart generation outcome.Access c) refl left
  fetched-within generation outcome.Wait c left = gone (fetched hart generation outcome.Wait c) refl refl
  fetched-within generation outcome.Done c left = spent (fetched hart generation outcome.Done c) refl refl left
  fetched-within generation (outcome.Trap cause) c left = spent (fetched hart generation (outcome.Trap cause) c) refl refl left

  faulted-within : (kind : AccessKind) → (is_execute kind ≡ true → Unspent hart.current) → IsWithinItsSlice (faulted hart kind)
  faulted-within access.Execute left = spent (faulted hart access.Execute) refl refl (left refl)
  faulted-within access.Read left = answered (faulted hart access.Read) refl refl
  faulted-within access.Write left = answered (faulted hart access.Write) refl refl

  pub within-kept : (s : Step) (r : Reply) (c : Carry) → HartAgrees n hart s c → IsWithinItsSlice (hart_after hart s r c)
  within-kept (step.Sample s) (reply.Sample None) c ok = same (hart_after hart (step.Sample s) (reply.Sample None) c) refl refl
  within-kept (step.Sample s) (reply.Sample (Some sampled)) c ok = same (hart_after hart (step.Sample s) (reply.Sample (Some sampled)) c) refl refl
  within-kept (step.Tick s) (reply.Tick None) c ok = same (hart_after hart (step.Tick s) (reply.Tick None) c) refl refl
  within-kept (step.Tick s) (reply.Tick (Some changes)) c ok = same (hart_after hart (step.Tick s) (reply.Tick (Some changes)) c) refl refl
  within-kept (step.Dispatch s) (reply.Dispatch (Ok slice)) c ok = begun (hart_after hart (step.Dispatch s) (reply.Dispatch (Ok slice)) c) s.vcpu slice refl
  within-kept (step.Dispatch s) r c ok = same (hart_after hart (step.Dispatch s) r c) refl refl
  within-kept (step.Preempt s) r c ok = gone (hart_after hart (step.Preempt s) r c) refl refl
  within-kept (step.Leave s) r c ok = gone (hart_after hart (step.Leave s) r c) refl refl
  within-kept (step.Take s) r c ok = spent (hart_after hart (step.Take s) r c) refl refl (unspent (step.Take s) c ok refl)
  within-kept (step.Balance s) r c ok = spent (hart_after hart (step.Balance s) r c) refl refl (unspent (step.Balance s) c ok refl)
  within-kept (step.Fetch s) (reply.Fetch None) c ok = spent (hart_after hart (step.Fetch s) (reply.Fetch None) c) refl refl (unspent (step.Fetch s) c ok refl)
  within-kept (step.Fetch s) (reply.Fetch (Some done)) c ok = fetched-within s.generation done.outcome c (unspent (step.Fetch s) c ok refl)
  within-kept (step.Access s) (reply.Access None) c ok = answered (hart_after hart (step.Access s) (reply.Access None) c) refl refl
  within-kept (step.Access s) (reply.Access (Some accessed)) c ok = answered (hart_after hart (step.Access s) (reply.Access (Some accessed)) c) refl refl
  within-kept (step.Fault s) r c ok = faulted-within s.access (unspent (step.Fault s) c ok)
  within-kept s r c ok = same (hart_after hart s r c) refl refl
