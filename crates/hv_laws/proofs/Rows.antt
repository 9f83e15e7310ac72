-- What a hart's own state says of the steps that it makes.
use Rattle.std.proofs.Common.{◌≡◌, ℕ, zero, suc, Bool, true, false, ◌==◌, refl, ap, sym, ◌∙◌, length, List, [], ◌∷◌, ◌++◌, if◌then◌else◌}
use Rattle.std.specs.Prelude.{Option, None, Some, Ok, option_map, ◌&&◌, not, ◌%◌, map}
use Rattle.std.specs.List.{list_all, filter, range_with_len}
use Rattle.hv_answer.specs.declared.reply.Outcome.{Outcome}
use Rattle.hv_answer.specs.declared.reply.Outcome.TheVariants as outcome
use Rattle.hv_answer.specs.declared.reply.Reply.{Reply}
use Rattle.hv_answer.specs.declared.reply.Reply.TheVariants as reply
use Rattle.hv_kinds.specs.declared.access.AccessKind.{AccessKind}
use Rattle.hv_kinds.specs.declared.access.AccessKind.TheVariants as access
use Rattle.hv_kinds.specs.declared.changes.SignalChanges.{SignalChanges}
use Rattle.hv_kinds.specs.declared.generation.Generation.{Generation}
use Rattle.hv_rules.specs.Carry.{Carry, Pending}
use Rattle.hv_rules.specs.Hart.{HartState, Current, Row, owes, waits, ends, ticks, free, runs, waits_for, with_current, turn_row, pending_row, owed_row, row_of, FitsPending, FitsRun, FitsCurrent, Fits, HartAgrees, hart_after, used_up, faulted, fetched, ticked_signals, without_first}
use Rattle.hv_rules.proofs.Slices.{is_signal, first-signal}
use Rattle.hv_rules.specs.Owed.{samples, has_changed, pin_step, pin_steps, owed_for}
use Rattle.hv_step.specs.declared.step.Step.{Step}
use Rattle.hv_step.specs.declared.step.Step.TheVariants as step
use Rattle.hv_text.specs.declared.limits.TheConstants.{SLOTS, GUEST_VCPUS}
use Rattle.hv_laws.specs.Laws.{current_of}

-- what a row says of the VCPU that its hart runs
abbrev Matches : Row → Option ℕ → Type 0
Matches (owes s) now = is_signal s ≡ true
Matches (waits vcpu pending generation) now = now ≡ Some vcpu
Matches ends now = Unit {0}
Matches (ticks slot) now = Unit {0}
Matches free now = now ≡ None
Matches (runs current) now = now ≡ Some current.vcpu

abbrev current_in : Option Current → Option ℕ
current_in now = option_map (λ current. current.vcpu) now

waits-matches : (now : Option Current) (pending : Pending) (generation : Generation) → Matches (waits_for now pending generation) (current_in now)
waits-matches None pending generation = refl
waits-matches (Some current) pending generation = refl

current-matches : (now : Option Current) → Matches (with_current now) (current_in now)
current-matches None = refl
current-matches (Some current) = refl

turn-matches : (n : ℕ) (hart : HartState) (left : ℕ) → Matches (turn_row n hart left) (current_of hart)
turn-matches n hart zero = tt
turn-matches n hart (suc left) =
    elim ((n == 0) && not hart.ticked) as (λ b. Matches (if b then ticks (hart.turns % SLOTS) else with_current hart.current) (current_of hart)) [
      | true ↦ tt
      | false ↦ current-matches hart.current
    ]

pending-matches : (n : ℕ) (hart : HartState) (pending : Option (Pending × Generation)) → Matches (pending_row n hart pending) (current_of hart)
pending-matches n hart None = turn-matches n hart hart.left
pending-matches n hart (Some pending) = waits-matches hart.current pending.0 pending.1

owed-matches : (n : ℕ) (hart : HartState) (owed : List Step) → list_all is_signal owed ≡ true → Matches (owed_row n hart owed) (current_of hart)
owed-matches n hart [] signals = pending-matches n hart hart.pending
owed-matches n hart (s ∷ later) signals = first-signal (is_signal s) (list_all is_signal later) signals

-- what a step that a hart makes says of the VCPU that it runs
abbrev pub Asks : (harts : ℕ) → Option ℕ → Step → Carry → Type 0
Asks harts now (step.Dispatch s) c = now ≡ None
Asks harts now (step.Preempt s) c = now ≡ Some s.vcpu
Asks harts now (step.Leave s) c = now ≡ Some s.vcpu
Asks harts now (step.Fetch s) c = now ≡ Some s.vcpu
Asks harts now (step.Balance s) c = length c.lengths ≡ harts
Asks harts now _ c = Unit {0}

owed-asks : (harts : ℕ) (now : Option ℕ) (s : Step) (c : Carry) → is_signal s ≡ true → Asks harts now s c
owed-asks harts now (step.Dispatch s) c signal = absurd (cc)
owed-asks harts now (step.Preempt s) c signal = absurd (cc)
owed-asks harts now (step.Leave s) c signal = absurd (cc)
owed-asks harts now (step.Fetch s) c signal = absurd (cc)
owed-asks harts now (step.Balance s) c signal = absurd (cc)
owed-asks harts now _ c signal = tt

tick-asks : (harts : ℕ) (now : Option ℕ) (s : Step) (c : Carry) (slot : ℕ) → s ≡ step.Tick (record { slot = slot }) → Asks harts now s c
tick-asks harts now s c slot is = rw is tt

waits-asks : (harts : ℕ) (now : Option ℕ) (s : Step) (c : Carry) (vcpu : ℕ) (pending : Pending) (generation : Generation) → now ≡ Some vcpu → FitsPending vcpu pending generation s c → Asks harts now s c
waits-asks harts now (step.Dispatch s) c vcpu pending generation is fits = absurd fits
waits-asks harts now (step.Preempt s) c vcpu pending generation is fits = absurd fits
waits-asks harts now (step.Leave s) c vcpu pending generation is fits = is ∙ ap Some (sym fits)
waits-asks harts now (step.Fetch s) c vcpu pending generation is fits = absurd fits
waits-asks harts now (step.Balance s) c vcpu pending generation is fits = absurd fits
waits-asks harts now _ c vcpu pending generation is fits = tt

run-asks : (harts : ℕ) (now : Option ℕ) (s : Step) (c : Carry) (vcpu : ℕ) → now ≡ Some vcpu → FitsRun harts vcpu s c → Asks harts now s c
run-asks harts now (step.Dispatch s) c zero is fits = absurd fits
run-asks harts now (step.Dispatch s) c (suc v) is fits = absurd fits
run-asks harts now (step.Preempt s) c zero is fits = absurd fits
run-asks harts now (step.Preempt s) c (suc v) is fits = absurd fits
run-asks harts now (step.Leave s) c zero is fits = absurd fits
run-asks harts now (step.Leave s) c (suc v) is fits = absurd fits
run-asks harts now (step.Fetch s) c zero is fits = absurd fits
run-asks harts now (step.Fetch s) c (suc v) is fits = is ∙ ap Some (sym fits.0)
run-asks harts now (step.Balance s) c zero is fits = fits
run-asks harts now (step.Balance s) c (suc v) is fits = absurd fits
run-asks harts now _ c vcpu is fits = tt

current-asks : (harts : ℕ) (now : Option ℕ) (s : Step) (c : Carry) (current : Current) → now ≡ Some current.vcpu → FitsCurrent harts current s c → Asks harts now s c
current-asks harts now (step.Leave s) c current is fits = is ∙ ap Some (sym fits)
current-asks harts now (step.Preempt s) c current is fits = is ∙ ap Some (sym fits.0)
current-asks harts now s c current is fits = run-asks harts now s c current.vcpu is fits.1

free-asks : (harts : ℕ) (now : Option ℕ) (s : Step) (c : Carry) → now ≡ None → Fits harts free s c → Asks harts now s c
free-asks harts now (step.Dispatch s) c is fits = is
free-asks harts now (step.Preempt s) c is fits = absurd fits
free-asks harts now (step.Leave s) c is fits = absurd fits
free-asks harts now (step.Fetch s) c is fits = absurd fits
free-asks harts now (step.Balance s) c is fits = absurd fits
free-asks harts now _ c is fits = tt

row-asks : (harts : ℕ) (row : Row) (now : Option ℕ) (s : Step) (c : Carry) → Matches row now → Fits harts row s c → Asks harts now s c
row-asks harts (owes next) now s c is fits = owed-asks harts now s c (ap is_signal fits ∙ is)
row-asks harts (waits vcpu pending generation) now s c is fits = waits-asks harts now s c vcpu pending generation is fits
row-asks harts ends now s c is fits = absurd fits
row-asks harts (ticks slot) now s c is fits = tick-asks harts now s c slot fits
row-asks harts free now s c is fits = free-asks harts now s c is fits
row-asks harts (runs current) now s c is fits = current-asks harts now s c current is fits

pub asked : (n : ℕ) (hart : HartState) (s : Step) (c : Carry) → list_all is_signal hart.owed ≡ true → HartAgrees n hart s c → Asks hart.harts (current_of hart) s c
asked n hart s c signals agreed = row-asks hart.harts (row_of n hart) (current_of hart) s c (owed-matches n hart hart.owed signals) agreed.0

-- which VCPU a hart runs after a step
abbrev pub switches : Step → Bool
switches (step.Dispatch s) = true
switches (step.Preempt s) = true
switches (step.Leave s) = true
switches (step.Fetch s) = true
switches _ = false

pub used-same : (now : Option Current) → current_in (used_up now) ≡ current_in now
used-same None = refl
used-same (Some current) = refl

faulted-same : (hart : HartState) (kind : AccessKind) → current_of (faulted hart kind) ≡ current_of hart
faulted-same hart access.Execute = used-same hart.current
faulted-same hart access.Read = refl
faulted-same hart access.Write = refl

pub fetched-same : (hart : HartState) (generation : Generation) (o : Outcome) (c : Carry) (Goal : Type 0) → (o ≡ outcome.Wait → Goal) → (current_of (fetched hart generation o c) ≡ current_of hart → Goal) → Goal
fetched-same hart generation outcome.Access c Goal on_wait on_same = on_same (used-same hart.current)
fetched-same hart generation outcome.Wait c Goal on_wait on_same = on_wait refl
fetched-same hart generation outcome.Done c Goal on_wait on_same = on_same (used-same hart.current)
fetched-same hart generation (outcome.Trap cause) c Goal on_wait on_same = on_same (used-same hart.current)

pub current-same : (hart : HartState) (s : Step) (r : Reply) (c : Carry) → switches s ≡ false → current_of (hart_after hart s r c) ≡ current_of hart
current-same hart (step.Dispatch s) r c other = absurd (cc)
current-same hart (step.Preempt s) r c other = absurd (cc)
current-same hart (step.Leave s) r c other = absurd (cc)
current-same hart (step.Fetch s) r c other = absurd (cc)
current-same hart (step.Sample s) (reply.Sample None) c other = refl
current-same hart (step.Sample s) (reply.Sample (Some sampled)) c other = refl
current-same hart (step.Tick s) (reply.Tick None) c other = refl
current-same hart (step.Tick s) (reply.Tick (Some changes)) c other = refl
current-same hart (step.Take s) r c other = used-same hart.current
current-same hart (step.Balance s) r c other = used-same hart.current
current-same hart (step.Access s) (reply.Access None) c other = refl
current-same hart (step.Access s) (reply.Access (Some accessed)) c other = refl
current-same hart (step.Fault s) r c other = faulted-same hart s.access
current-same hart s r c other = refl

-- the steps that a hart owes stay signals
all-append : (p : Step → Bool) (xs ys : List Step) → list_all p xs ≡ true → list_all p ys ≡ true → list_all p (xs ++ ys) ≡ true
all-append p [] ys is more = more
all-append p (x ∷ xs) ys is more = both (p x) (list_all p xs) (list_all p (xs ++ ys)) is (λ rest. all-append p xs ys rest more)
  where
    both : (a b d : Bool) → (a && b) ≡ true → (b ≡ true → d ≡ true) → (a && d) ≡ true
    both true b d is next = next is
    both false b d is next = absurd (cc)

pins-signal : (generation : Generation) (row : ℕ) (ns : List ℕ) → list_all is_signal (map (pin_step generation row) ns) ≡ true
pins-signal generation row [] = refl
pins-signal generation row (n ∷ ns) = pins-signal generation row ns

samples-signal : (generation : Generation) (row : ℕ) (parent : Option (ℕ × ℕ)) (changed : Bool) → list_all is_signal (samples generation row parent changed) ≡ true
samples-signal generation row None changed = refl
samples-signal generation row (Some parent) false = refl
samples-signal generation row (Some parent) true = refl

owed-signal : (generation : Generation) (row : ℕ) (parent : Option (ℕ × ℕ)) (changes : SignalChanges) → list_all is_signal (owed_for generation row parent changes) ≡ true
owed-signal generation row parent changes =
    all-append is_signal (samples generation row parent changes.line) (pin_steps generation row changes.pins) (samples-signal generation row parent changes.line) (pins-signal generation row (filter (has_changed changes.pins) (range_with_len 0 GUEST_VCPUS)))

ticked-signal : (slot : ℕ) (clock parent : Option (ℕ × ℕ)) (changes : SignalChanges) → list_all is_signal (ticked_signals slot clock parent changes) ≡ true
ticked-signal slot None parent changes = refl
ticked-signal slot (Some clock) parent changes = owed-signal (record { slot = slot; birth = clock.1 }) clock.0 parent changes

paid-signal : (owed : List Step) → list_all is_signal owed ≡ true → list_all is_signal (without_first owed) ≡ true
paid-signal [] is = refl
paid-signal (s ∷ owed) is = rest (is_signal s) (list_all is_signal owed) is
  where
    rest : (a b : Bool) → (a && b) ≡ true → b ≡ true
    rest true b is = is
    rest false b is = absurd (cc)

fetched-owed : (hart : HartState) (generation : Generation) (o : Outcome) (c : Carry) → (fetched hart generation o c).owed ≡ hart.owed
fetched-owed hart generation outcome.Access c = refl
fetched-owed hart generation outcome.Wait c = refl
fetched-owed hart generation _ c = refl

faulted-owed : (hart : HartState) (kind : AccessKind) → (faulted hart kind).owed ≡ hart.owed
faulted-owed hart access.Execute = refl
faulted-owed hart _ = refl

pub signals-kept : (hart : HartState) (s : Step) (r : Reply) (c : Carry) → list_all is_signal hart.owed ≡ true → list_all is_signal (hart_after hart s r c).owed ≡ true
signals-kept hart (step.Sample s) (reply.Sample None) c was = paid-signal hart.owed was
signals-kept hart (step.Sample s) (reply.Sample (Some sampled)) c was =
    all-append is_signal (without_first hart.owed) (owed_for s.generation s.parent None sampled.changes) (paid-signal hart.owed was) (owed-signal s.generation s.parent None sampled.changes)
signals-kept hart (step.Pin s) r c was = paid-signal hart.owed was
signals-kept hart (step.Tick s) (reply.Tick None) c was = was
signals-kept hart (step.Tick s) (reply.Tick (Some changes)) c was =
    all-append is_signal hart.owed (ticked_signals s.slot c.clock c.parent changes) was (ticked-signal s.slot c.clock c.parent changes)
signals-kept hart (step.Dispatch s) (reply.Dispatch (Ok slice)) c was = was
signals-kept hart (step.Dispatch s) r c was = was
signals-kept hart (step.Fetch s) (reply.Fetch None) c was = was
signals-kept hart (step.Fetch s) (reply.Fetch (Some done)) c was = rw (fetched-owed hart s.generation done.outcome c) was
signals-kept hart (step.Access s) (reply.Access None) c was = was
signals-kept hart (step.Access s) (reply.Access (Some accessed)) c was =
    all-append is_signal hart.owed (owed_for s.generation s.row c.parent accessed.changes) was (owed-signal s.generation s.row c.parent accessed.changes)
signals-kept hart (step.Fault s) r c was = rw (faulted-owed hart s.access) was
signals-kept hart s r c was = was

-- a hart's number of harts stays
fetched-harts : (hart : HartState) (generation : Generation) (o : Outcome) (c : Carry) → (fetched hart generation o c).harts ≡ hart.harts
fetched-harts hart generation outcome.Access c = refl
fetched-harts hart generation outcome.Wait c = refl
fetched-harts hart generation _ c = refl

faulted-harts : (hart : HartState) (kind : AccessKind) → (faulted hart kind).harts ≡ hart.harts
faulted-harts hart access.Execute = refl
faulted-harts hart _ = refl

pub harts-same : (hart : HartState) (s : Step) (r : Reply) (c : Carry) → (hart_after hart s r c).harts ≡ hart.harts
harts-same hart (step.Sample s) (reply.Sample None) c = refl
harts-same hart (step.Sample s) (reply.Sample (Some sampled)) c = refl
harts-same hart (step.Tick s) (reply.Tick None) c = refl
harts-same hart (step.Tick s) (reply.Tick (Some changes)) c = refl
harts-same hart (step.Dispatch s) (reply.Dispatch (Ok slice)) c = refl
harts-same hart (step.Dispatch s) r c = refl
harts-same hart (step.Fetch s) (reply.Fetch None) c = refl
harts-same hart (step.Fetch s) (reply.Fetch (Some done)) c = fetched-harts hart s.generation done.outcome c
harts-same hart (step.Access s) (reply.Access None) c = refl
harts-same hart (step.Access s) (reply.Access (Some accessed)) c = refl
harts-same hart (step.Fault s) r c = faulted-harts hart s.access
harts-same hart s r c = refl
