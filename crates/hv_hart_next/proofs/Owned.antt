-- The access that a hart waits for is one of the VCPU that it runs, of the guest that the VCPU is of while it runs there.
use Rattle.std.proofs.Common.{◌≡◌, ℕ, zero, suc, ◌==◌, ◌⊎◌, inl, inr, Bool, true, false, if◌then◌else◌, eq-eqb, refl, sym, ap, subst, ◌∙◌}
use Rattle.std.specs.Prelude.{Option, None, Some, Ok, Err, Result, option_map}
use Rattle.std.specs.List.{list_any}
use Rattle.hv_answer.specs.declared.reply.Outcome.{Outcome}
use Rattle.hv_answer.specs.declared.reply.Outcome.TheVariants as outcome
use Rattle.hv_answer.specs.declared.reply.Reply.{Reply}
use Rattle.hv_answer.specs.declared.reply.Reply.TheVariants as reply
use Rattle.hv_event.specs.declared.event.ActorId.{ActorId}
use Rattle.hv_event.specs.declared.event.ActorId.TheVariants.{Hart, Terminal}
use Rattle.hv_kinds.specs.declared.access.AccessKind.{AccessKind}
use Rattle.hv_kinds.specs.declared.access.AccessKind.TheVariants as access
use Rattle.hv_kinds.specs.declared.generation.Generation.{Generation}
use Rattle.hv_kinds.specs.declared.state.State.{State}
use Rattle.hv_kinds.specs.declared.state.State.TheVariants.{Ready, Running}
use Rattle.hv_laws.specs.Board.{Board, Changes, IsStep, Made, is_hart, is_vcpu}
use Rattle.hv_laws.specs.Laws.{current_of}
use Rattle.hv_rules.specs.Hart.{IsWithinItsSlice}
use Rattle.hv_laws.specs.Run.{IsReached, IsStart}
use Rattle.hv_laws.proofs.Current.{hart-step}
use Rattle.hv_laws.proofs.Frame.{false-true, or-true, true-false}
use Rattle.hv_laws.proofs.Rows.{Asks, asked, used-same}
use Rattle.hv_rules.proofs.Slices.{is_signal}
use Rattle.hv_laws.proofs.Runs.{reached-keeps}
use Rattle.hv_rules.proofs.Slices.{within-kept}
use Rattle.hv_laws.proofs.States.{access-same, added-running, dispatch-running, fetched-running, move-running, take-same, woken-running}
use Rattle.hv_laws.proofs.Steps.{vcpu-step, vcpu-touched}
use Rattle.hv_region.specs.declared.plan.VcpuPlan.{VcpuPlan}
use Rattle.hv_rules.specs.Carry.{Carry, Pending, load, store}
use Rattle.hv_rules.specs.Footprint.{components, reached}
use Rattle.hv_rules.specs.Hart.{Current, Fits, FitsRun, HartAgrees, HartState, Row, ends, fetched, faulted, free, hart_after, owes, pended, row_of, runs, slot_of, ticks, waits}
use Rattle.hv_rules.specs.Vcpu.{VcpuAgrees, added, completed, vcpu_after}
use Rattle.hv_step.specs.declared.step.Fetch.{Fetch}
use Rattle.hv_step.specs.declared.step.Step.{Step}
use Rattle.hv_step.specs.declared.step.Step.TheVariants as step
use Rattle.hv_vcpu.specs.Instruction.{carried_out}
use Rattle.hv_vcpu.specs.Table.{led}
use Rattle.hv_vcpu.specs.Vcpu.{VcpuValue, moved_if, stepped, wakes, with_pins, woken}
use Rattle.hv_vcpu.specs.declared.moves.Move.{Move}
use Rattle.hv_vcpu.specs.declared.moves.Move.TheVariants as move
use Rattle.hv_vcpu.specs.declared.moves.WrongState.{WrongState}
use Rattle.hv_hart_next.proofs.Kept.{Kept, start-kept, step-kept}
use Rattle.hv_hart_next.proofs.Unique.{IsKnown, owed-known}

abbrev is_access : Step → Bool
is_access (step.Access s) = true
is_access _ = false

abbrev is_dispatch : Step → Bool
is_dispatch (step.Dispatch s) = true
is_dispatch _ = false

-- a VCPU that runs after a step ran before it, of the same guest, or it is dispatched

abbrev keeps : Move → Bool
keeps (move.Add birth index plan) = false
keeps move.Drop = false
keeps m = true

birth-moved : (m : Move) (led-to : Result State WrongState) (x : VcpuValue) → keeps m ≡ true → (moved_if m led-to x).birth ≡ x.birth
birth-moved m (Err wrong) x kept = refl
birth-moved (move.Add birth index plan) (Ok s) x kept = absurd (cc kept)
birth-moved move.Drop (Ok s) x kept = absurd (cc kept)
birth-moved m (Ok s) x kept = refl

birth-kept : (m : Move) (x : VcpuValue) → keeps m ≡ true → (stepped m x).birth ≡ x.birth
birth-kept m x kept = birth-moved m (led m x.state) x kept

birth-added : (x : VcpuValue) (birth : ℕ) (plan : Option (ℕ × VcpuPlan)) (h : ℕ) → x.state ≡ Running h → (added x birth plan).birth ≡ x.birth
birth-added x birth None h was = refl
birth-added x birth (Some plan) h was = ap (λ (s : State). (moved_if (move.Add birth plan.0 plan.1) (led (move.Add birth plan.0 plan.1) s) x).birth) was

not-dropped : (x : VcpuValue) (h : ℕ) → x.state ≡ Running h → (stepped move.Drop x).state ≡ Running h → ⊥
not-dropped x h was run =
    let gone = ap (λ (s : State). (moved_if move.Drop (led move.Drop s) x).state) was in
    absurd (cc (sym gone ∙ run))

birth-woken : (x : VcpuValue) → (woken x).birth ≡ x.birth
birth-woken x = elim (wakes x) as (λ (b : Bool). (if b then record x { state = Ready } else x).birth ≡ x.birth) [ true ↦ refl | false ↦ refl ]

birth-completed : (x : VcpuValue) (pending : Option Pending) (value : ℕ) → (completed pending value x).birth ≡ x.birth
birth-completed x None value = refl
birth-completed x (Some (load address size is_signed register)) value = refl
birth-completed x (Some (store address size stored_value)) value = refl

abbrev Before : ActorId → VcpuValue → Step → VcpuValue → ℕ → Type 0
Before by x s y h = ((x.state ≡ Running h) × (y.birth ≡ x.birth)) ⊎ ((by ≡ Hart h) × (is_dispatch s ≡ true))

dispatched-before : (g : ℕ) (x : VcpuValue) (v : ℕ) (h : ℕ) (P : Type 0) → (x.state ≡ Running h) ⊎ ((g ≡ h) × P)
    → Before (Hart g) x (step.Dispatch (record { vcpu = v })) (stepped (move.Dispatch g) x) h
dispatched-before g x v h P (inl was) = inl (was, birth-kept (move.Dispatch g) x refl)
dispatched-before g x v h P (inr now) = inr (ap Hart now.0, refl)

pin-before : (by : ActorId) (x : VcpuValue) (s : Step) (r : Reply) (c : Carry) (h : ℕ) → is_signal s ≡ true → (vcpu_after by x s r c).state ≡ Running h
    → (x.state ≡ Running h) × ((vcpu_after by x s r c).birth ≡ x.birth)
pin-before by x (step.Pin s) (reply.Pin None) c h signal run = (run, refl)
pin-before by x (step.Pin s) (reply.Pin (Some pinned)) c h signal run = (woken-running (with_pins s.row pinned.pins x) h run, birth-woken (with_pins s.row pinned.pins x))
pin-before by x (step.Pin s) r c h signal run = (run, refl)
pin-before by x (step.Sample s) r c h signal run = (run, refl)
pin-before by x _ r c h signal run = absurd (cc signal)

fetch-before : (by : ActorId) (x : VcpuValue) (s : Fetch) (r : Reply) (c : Carry) (h : ℕ) → (vcpu_after by x (step.Fetch s) r c).state ≡ Running h
    → (x.state ≡ Running h) × ((vcpu_after by x (step.Fetch s) r c).birth ≡ x.birth)
fetch-before by x s (reply.Fetch None) c h run = (run, refl)
fetch-before by x s (reply.Fetch (Some done)) c h run = (fetched-running x.state (carried_out x.context done.word).answer h run, refl)
fetch-before by x s r c h run = (run, refl)

take-birth : (by : ActorId) (x : VcpuValue) (v : ℕ) (r : Reply) (c : Carry) → (vcpu_after by x (step.Take (record { vcpu = v })) r c).birth ≡ x.birth
take-birth by x v (reply.Take cause) c = refl
take-birth by x v _ c = refl

access-birth : (by : ActorId) (x : VcpuValue) (s : Step) (r : Reply) (c : Carry) → is_access s ≡ true → (vcpu_after by x s r c).birth ≡ x.birth
access-birth by x (step.Access s) (reply.Access None) c is = refl
access-birth by x (step.Access s) (reply.Access (Some accessed)) c is = birth-completed x c.pending accessed.value
access-birth by x (step.Access s) _ c is = refl
access-birth by x _ r c is = absurd (cc is)

before-of : (by : ActorId) (x : VcpuValue) (s : Step) (r : Reply) (c : Carry) (h : ℕ) → VcpuAgrees by x s r c → (vcpu_after by x s r c).state ≡ Running h → Before by x s (vcpu_after by x s r c) h
before-of by x (step.Vadd s) r c h ok run = let was = added-running x s.birth c.vcpu h run in inl (was, birth-added x s.birth c.vcpu h was)
before-of by x (step.Vdrop s) r c h ok run = absurd (not-dropped x h (move-running move.Drop x h refl run) run)
before-of by x (step.Kick s) r c h ok run = inl (move-running move.Kick x h refl run, birth-kept move.Kick x refl)
before-of by x (step.Resume s) r c h ok run = inl (move-running move.Resume x h refl run, birth-kept move.Resume x refl)
before-of by x (step.Pause s) r c h ok run = inl (move-running move.Pause x h refl run, birth-kept move.Pause x refl)
before-of by x (step.Halt s) r c h ok run = inl (move-running move.Halt x h refl run, birth-kept move.Halt x refl)
before-of by x (step.Reset s) r c h ok run = inl (move-running move.Reset x h refl run, birth-kept move.Reset x refl)
before-of (Hart g) x (step.Dispatch s) r c h ok run = dispatched-before g x s.vcpu h _ (dispatch-running g x h run)
before-of (Terminal t) x (step.Dispatch s) r c h ok run = absurd ok
before-of by x (step.Preempt s) r c h ok run = inl (move-running move.Preempt x h refl run, birth-kept move.Preempt x refl)
before-of by x (step.Take s) r c h ok run = inl (sym (take-same by x c s.vcpu r).0 ∙ run, take-birth by x s.vcpu r c)
before-of by x (step.Fetch s) r c h ok run = inl (fetch-before by x s r c h run)
before-of by x (step.Access s) r c h ok run = inl (sym (access-same by x c s r).0 ∙ run, access-birth by x (step.Access s) r c refl)
before-of by x (step.Pin s) r c h ok run = inl (pin-before by x (step.Pin s) r c h refl run)
before-of by x _ r c h ok run = inl (run, refl)

-- what a step leaves of a hart's access: nothing, what it was, or what a fetch leaves

abbrev Fetches : HartState → Step → Carry → HartState → Type 0
Fetches hart (step.Fetch s) c new = (new.pending ≡ pended c.pending s.generation) × (current_of new ≡ current_of hart)
Fetches hart _ c new = ⊥

abbrev Stays : HartState → Step → HartState → Type 0
Stays hart s new = (new.pending ≡ hart.pending) × (current_of new ≡ current_of hart) × (is_dispatch s ≡ false)

abbrev Leaves : HartState → Step → Carry → HartState → Type 0
Leaves hart s c new = (new.pending ≡ None) ⊎ (Stays hart s new ⊎ Fetches hart s c new)

fetch-leaves : (hart : HartState) (s : Fetch) (o : Outcome) (c : Carry) → Leaves hart (step.Fetch s) c (fetched hart s.generation o c)
fetch-leaves hart s outcome.Access c = inr (inr (refl, used-same hart.current))
fetch-leaves hart s outcome.Wait c = inl refl
fetch-leaves hart s outcome.Done c = inr (inl (refl, used-same hart.current, refl))
fetch-leaves hart s (outcome.Trap cause) c = inr (inl (refl, used-same hart.current, refl))

fault-leaves : (hart : HartState) (s : Step) (kind : AccessKind) (c : Carry) → is_dispatch s ≡ false → Leaves hart s c (faulted hart kind)
fault-leaves hart s access.Execute c other = inr (inl (refl, used-same hart.current, other))
fault-leaves hart s access.Read c other = inl refl
fault-leaves hart s access.Write c other = inl refl

step-leaves : (hart : HartState) (s : Step) (r : Reply) (c : Carry) → (is_dispatch s ≡ true → hart.pending ≡ None) → Leaves hart s c (hart_after hart s r c)
step-leaves hart (step.Sample s) (reply.Sample None) c unheld = inr (inl (refl, refl, refl))
step-leaves hart (step.Sample s) (reply.Sample (Some sampled)) c unheld = inr (inl (refl, refl, refl))
step-leaves hart (step.Tick s) (reply.Tick None) c unheld = inr (inl (refl, refl, refl))
step-leaves hart (step.Tick s) (reply.Tick (Some changes)) c unheld = inr (inl (refl, refl, refl))
step-leaves hart (step.Dispatch s) (reply.Dispatch (Ok slice)) c unheld = inl (unheld refl)
step-leaves hart (step.Dispatch s) r c unheld = inl (unheld refl)
step-leaves hart (step.Preempt s) r c unheld = inl refl
step-leaves hart (step.Leave s) r c unheld = inl refl
step-leaves hart (step.Take s) r c unheld = inr (inl (refl, used-same hart.current, refl))
step-leaves hart (step.Balance s) r c unheld = inr (inl (refl, used-same hart.current, refl))
step-leaves hart (step.Fetch s) (reply.Fetch None) c unheld = inr (inl (refl, used-same hart.current, refl))
step-leaves hart (step.Fetch s) (reply.Fetch (Some done)) c unheld = fetch-leaves hart s done.outcome c
step-leaves hart (step.Access s) (reply.Access None) c unheld = inl refl
step-leaves hart (step.Access s) (reply.Access (Some accessed)) c unheld = inl refl
step-leaves hart (step.Fault s) r c unheld = fault-leaves hart (step.Fault s) s.access c refl
step-leaves hart s r c unheld = inr (inl (refl, refl, refl))

none-current : (now : Option Current) → option_map (λ (k : Current). k.vcpu) now ≡ None → now ≡ None
none-current None is = refl
none-current (Some k) is = absurd (cc is)

dispatch-free : (hart : HartState) (s : Step) (c : Carry) → Asks hart.harts (current_of hart) s c → IsWithinItsSlice hart → is_dispatch s ≡ true → hart.pending ≡ None
dispatch-free hart (step.Dispatch s) c asks within is = within.pending (none-current hart.current asks)
dispatch-free hart _ c asks within is = absurd (cc is)

-- a fetch is of a VCPU of a guest

suc-fetch : (harts v : ℕ) (x : Fetch) (c : Carry) → FitsRun harts v (step.Fetch x) c → (u : ℕ) × (x.vcpu ≡ suc u) × (x.generation.slot ≡ slot_of (suc u))
suc-fetch harts zero x c fits = absurd fits
suc-fetch harts (suc u) x c fits = (u, fits.0, fits.1)

abbrev is_fetch : Step → Bool
is_fetch (step.Fetch s) = true
is_fetch _ = false

fetch-row : (harts : ℕ) (row : Row) (x : Fetch) (c : Carry) → IsKnown row → Fits harts row (step.Fetch x) c → (u : ℕ) × (x.vcpu ≡ suc u) × (x.generation.slot ≡ slot_of (suc u))
fetch-row harts (owes next) x c known fits = absurd (false-true (ap is_signal fits ∙ known))
fetch-row harts (waits v p g) x c known fits = absurd fits
fetch-row harts ends x c known fits = absurd fits
fetch-row harts (ticks slot) x c known fits = absurd (false-true (sym (ap is_fetch fits)))
fetch-row harts free x c known fits = absurd fits
fetch-row harts (runs k) x c known fits = suc-fetch harts k.vcpu x c fits.1

-- whose a pending access is

abbrev pub IsOf : ℕ → Generation → VcpuValue → Type 0
IsOf v g x = (u : ℕ) × (v ≡ suc u) × (g.slot ≡ slot_of v) × (g.birth ≡ x.birth)

abbrev pub Owns : Board → ℕ → Type 0
Owns b h =
    (v : ℕ) (p : Pending × Generation) → current_of (b.harts h) ≡ Some v → (b.harts h).pending ≡ Some p → (b.vcpus v).state ≡ Running h → IsOf v p.1 (b.vcpus v)

pub record Owned (count : ℕ) (b : Board) : Type 0 where
  pub kept : Kept count b
  pub within : (h : ℕ) → IsWithinItsSlice (b.harts h)
  pub owns : (h : ℕ) → Owns b h

none-some : {A : Type 0} (o : Option A) (x : A) → o ≡ None → o ≡ Some x → ⊥
none-some o x p q = cc

some-same : {A : Type 0} (x y : A) → Some x ≡ Some y → x ≡ y
some-same x y is = cc

pended-is : (pending : Option Pending) (g : Generation) (p : Pending × Generation) → pended pending g ≡ Some p → p.1 ≡ g
pended-is None g p is = absurd (none-some None p refl is)
pended-is (Some pending) g p is = sym (ap (λ (z : Pending × Generation). z.1) (some-same (pending, g) p is))

born-same : (v : ℕ) (g : Generation) (x y : VcpuValue) → y.birth ≡ x.birth → IsOf v g x → IsOf v g y
born-same v g x y same is = (is.0, is.1, is.2, is.3 ∙ sym same)

fetch-owns : (count : ℕ) (before after : Board) (by : ActorId) (s : Step) (r : Reply) (c : Carry) (h v : ℕ) (p : Pending × Generation) (new : HartState)
    → Changes (components count by s r c) before after (record { by = by; step = s; reply = r; carry = c })
    → Kept count before → HartAgrees h (before.harts h) s c → Fetches (before.harts h) s c new → current_of new ≡ Some v → new.pending ≡ Some p → IsOf v p.1 (before.vcpus v)
fetch-owns count before after by (step.Fetch x) r c h v p new changes J ok fetches cur pend =
    let hart = before.harts h in
    let cs = components count by (step.Fetch x) r c in
    let at = vcpu-touched cs before after (record { by = by; step = step.Fetch x; reply = r; carry = c }) changes x.vcpu
    (or-true (x.vcpu == x.vcpu) (list_any (is_vcpu x.vcpu) (reached x.generation x.row c.area)) (eq-eqb x.vcpu x.vcpu refl)) in
    let now : current_of hart ≡ Some x.vcpu = asked h hart (step.Fetch x) c (J.currents.owes h) ok in
    let same : x.vcpu ≡ v = some-same x.vcpu v (sym now ∙ sym fetches.1 ∙ cur) in
    let row = fetch-row hart.harts (row_of h hart) x c (owed-known h hart hart.owed (J.currents.owes h) (J.sized h)) ok.0 in
    let it : p.1 ≡ x.generation = pended-is c.pending x.generation p (sym fetches.0 ∙ pend) in
    let own : IsOf x.vcpu x.generation (before.vcpus x.vcpu) = (row.0, row.1, row.2 ∙ ap slot_of (sym row.1), at.0.2) in
    subst (λ (z : ℕ). IsOf z p.1 (before.vcpus z)) same (subst (λ (g : Generation). IsOf x.vcpu g (before.vcpus x.vcpu)) (sym it) own)
fetch-owns count before after by _ r c h v p new changes J ok fetches cur pend = absurd fetches

hart-itself : (h : ℕ) (by : ActorId) → by ≡ Hart h → is_hart h by ≡ true
hart-itself h by is = ap (is_hart h) is ∙ eq-eqb h h refl

module _ (count : ℕ) (before after : Board) (m : Made) (is : IsStep count before after m) (J : Owned count before) (h v : ℕ) (p : Pending × Generation) (run : (after.vcpus v).state ≡ Running h) where
  abbrev RanBefore : Type 0
  RanBefore = Before m.by (before.vcpus v) m.step (after.vcpus v) h

  ran-before : RanBefore
  ran-before =
      vcpu-step (components count m.by m.step m.reply m.carry) before after m is.components v (λ (y : VcpuValue). y.state ≡ Running h → Before m.by (before.vcpus v) m.step y h)
      (λ t ok ran. before-of m.by (before.vcpus v) m.step m.reply m.carry h ok ran) (λ t ran. inl (ran, refl)) run

  abbrev Owning : HartState → Type 0
  Owning hart = current_of hart ≡ Some v → hart.pending ≡ Some p → IsOf v p.1 (after.vcpus v)

  stays-own : current_of (before.harts h) ≡ Some v → (before.harts h).pending ≡ Some p → ((m.by ≡ Hart h) × (is_dispatch m.step ≡ true) → ⊥) → IsOf v p.1 (after.vcpus v)
  stays-own cur pend isnt =
      elim ran-before [
        | inl was ↦ born-same v p.1 (before.vcpus v) (after.vcpus v) was.1 (J.owns h v p cur pend was.0)
        | inr now ↦ absurd (isnt now)
      ]

  abbrev new : HartState
  new = hart_after (before.harts h) m.step m.reply m.carry

  not-fetch : (s : Step) → Fetches (before.harts h) s m.carry new → is_dispatch s ≡ true → ⊥
  not-fetch (step.Dispatch x) fetches dispatch = fetches
  not-fetch _ fetches dispatch = absurd (cc dispatch)

  own-made : HartAgrees h (before.harts h) m.step m.carry → Owning new
  own-made ok cur pend =
      let hart = before.harts h in
      let asks = asked h hart m.step m.carry (J.kept.currents.owes h) ok in
      elim (step-leaves hart m.step m.reply m.carry (dispatch-free hart m.step m.carry asks (J.within h))) [
        | inl none ↦ absurd (none-some new.pending p none pend)
        | inr more ↦ elim more [
          | inl stays ↦ stays-own (sym stays.1 ∙ cur) (sym stays.0 ∙ pend) (λ (now : (m.by ≡ Hart h) × (is_dispatch m.step ≡ true)). true-false (is_dispatch m.step) now.1 stays.2)
          | inr fetches ↦ elim ran-before [
            | inl was ↦ born-same v p.1 (before.vcpus v) (after.vcpus v) was.1
                (fetch-owns count before after m.by m.step m.reply m.carry h v p new is.components J.kept ok fetches cur pend)
            | inr now ↦ absurd (not-fetch m.step fetches now.1)
          ]
        ]
      ]

  own-kept : Owning (after.harts h)
  own-kept =
      hart-step count before after m is h Owning (λ t ok. own-made ok)
      (λ t cur pend. stays-own cur pend (λ (now : (m.by ≡ Hart h) × (is_dispatch m.step ≡ true)). true-false (is_hart h m.by) (hart-itself h m.by now.0) t))

start-owned : (count : ℕ) (b : Board) → IsStart count b → Owned count b
start-owned count b is = record {
  kept = start-kept count b is;
  within = λ h. record { pending = λ _. is.nothing_pending h; used = λ k now. absurd (none-some (b.harts h).current k (is.free h) now) };
  owns = λ h v p cur pend run. absurd (none-some (b.harts h).pending p (is.nothing_pending h) pend);
}

pub owned-reached : (count : ℕ) (b : Board) → IsReached count b → Owned count b
owned-reached count =
    reached-keeps count (Owned count) (start-owned count)
    (λ b a m is J. record {
      kept = step-kept count b a m is J.kept;
      within = λ h. hart-step count b a m is h IsWithinItsSlice (λ t ok. within-kept h (b.harts h) (J.kept.currents.owes h) (J.within h) m.step m.reply m.carry ok) (λ t. J.within h);
      owns = λ h v p cur pend run. own-kept count b a m is J h v p run cur pend;
    })
