-- A VCPU that runs on a hart is the one that the hart runs: it holds at the start, and each step keeps it.
use Rattle.std.proofs.Common.{◌≡◌, ℕ, true, false, ◌==◌, ◌⊎◌, inl, inr, refl, ap, sym, ◌∙◌, subst, eqb-true, eq-eqb, List}
use Rattle.std.specs.Prelude.{Option, None, Some, Ok}
use Rattle.std.specs.List.{list_any, list_all}
use Rattle.hv_answer.specs.declared.reply.Fetched.{Fetched}
use Rattle.hv_answer.specs.declared.reply.Outcome.TheVariants as outcome
use Rattle.hv_answer.specs.declared.reply.Reply.{Reply}
use Rattle.hv_answer.specs.declared.reply.Reply.TheVariants as reply
use Rattle.hv_event.specs.declared.event.ActorId.{ActorId}
use Rattle.hv_event.specs.declared.event.ActorId.TheVariants.{Hart, Terminal}
use Rattle.hv_kinds.specs.declared.state.State.TheVariants.{Running}
use Rattle.hv_rules.specs.Carry.{Carry}
use Rattle.hv_event.specs.declared.event.CellId.{CellId}
use Rattle.hv_rules.specs.Footprint.{components, reached}
use Rattle.hv_rules.specs.Hart.{HartState, HartAgrees, hart_after}
use Rattle.hv_rules.specs.Vcpu.{Shows, VcpuAgrees, vcpu_after, runs_on, dispatched}
use Rattle.hv_step.specs.declared.step.Fetch.{Fetch}
use Rattle.hv_step.specs.declared.step.Step.{Step}
use Rattle.hv_step.specs.declared.step.Step.TheVariants as step
use Rattle.hv_vcpu.specs.Instruction.{carried_out}
use Rattle.hv_vcpu.specs.Table.{led}
use Rattle.hv_vcpu.specs.Vcpu.{VcpuValue, with_pins}
use Rattle.hv_vcpu.specs.declared.moves.Move.TheVariants as move
use Rattle.hv_laws.specs.Board.{Board, Made, IsStep, is_vcpu, is_hart}
use Rattle.hv_laws.specs.Laws.{current_of}
use Rattle.hv_laws.proofs.Frame.{after-step, or-false, or-true, true-false}
use Rattle.hv_rules.proofs.Slices.{is_signal}
use Rattle.hv_laws.proofs.Rows.{Asks, asked, current-same, fetched-same, used-same, signals-kept}
use Rattle.hv_laws.proofs.Steps.{vcpu-step, vcpu-touched}
use Rattle.hv_laws.proofs.States.{runs-there, move-running, preempt-stops, dispatch-running, added-running, woken-running, fetched-running, waiting-stops, take-same, access-same}

-- what a step leads to run on a hart ran there before, or is dispatched by it
abbrev Dispatches : ℕ → ActorId → Step → Reply → Carry → ℕ → Type 0
Dispatches count by s r c h =
    (is_hart h by ≡ true)
    × ((hart : HartState) (v : ℕ) → list_any (is_vcpu v) (components count by s r c) ≡ true → current_of (hart_after hart s r c) ≡ Some v)

abbrev Ran : ℕ → ActorId → VcpuValue → Step → Reply → Carry → ℕ → Type 0
Ran count by x s r c h = (x.state ≡ Running h) ⊎ Dispatches count by s r c h

dispatch-becomes : (count g : ℕ) (x : VcpuValue) (vcpu : ℕ) (r : Reply) (c : Carry) (h : ℕ)
    → r ≡ reply.Dispatch (dispatched x.plan.slice (led (move.Dispatch g) x.state))
    → (x.state ≡ Running h) ⊎ ((g ≡ h) × (dispatched x.plan.slice (led (move.Dispatch g) x.state) ≡ Ok x.plan.slice))
    → Ran count (Hart g) x (step.Dispatch (record { vcpu = vcpu })) r c h
dispatch-becomes count g x vcpu r c h is (inl was) = inl was
dispatch-becomes count g x vcpu r c h is (inr now) = inr (
  rw now.0 (eq-eqb h h refl),
  λ hart v t.
      ap (λ q. current_of (hart_after hart (step.Dispatch (record { vcpu = vcpu })) q c)) (is ∙ ap reply.Dispatch now.1)
      ∙ ap Some (sym (eqb-true v vcpu (sym (or-false (v == vcpu)) ∙ t))),
)

pin-becomes : (by : ActorId) (x : VcpuValue) (s : Step) (r : Reply) (c : Carry) (h : ℕ) → is_signal s ≡ true → (vcpu_after by x s r c).state ≡ Running h → x.state ≡ Running h
pin-becomes by x (step.Pin s) (reply.Pin None) c h signal run = run
pin-becomes by x (step.Pin s) (reply.Pin (Some pinned)) c h signal run = woken-running (with_pins s.row pinned.pins x) h run
pin-becomes by x (step.Pin s) r c h signal run = run
pin-becomes by x (step.Sample s) r c h signal run = run
pin-becomes by x _ r c h signal run = absurd (cc)

fetch-becomes : (by : ActorId) (x : VcpuValue) (s : Fetch) (r : Reply) (c : Carry) (h : ℕ) → (vcpu_after by x (step.Fetch s) r c).state ≡ Running h → x.state ≡ Running h
fetch-becomes by x s (reply.Fetch None) c h run = run
fetch-becomes by x s (reply.Fetch (Some done)) c h run = fetched-running x.state (carried_out x.context done.word).answer h run
fetch-becomes by x s r c h run = run

becomes : (count : ℕ) (by : ActorId) (x : VcpuValue) (s : Step) (r : Reply) (c : Carry) (h : ℕ) → VcpuAgrees by x s r c → (vcpu_after by x s r c).state ≡ Running h → Ran count by x s r c h
becomes count by x (step.Vadd s) r c h ok run = inl (added-running x s.birth c.vcpu h run)
becomes count by x (step.Vdrop s) r c h ok run = inl (move-running move.Drop x h refl run)
becomes count by x (step.Kick s) r c h ok run = inl (move-running move.Kick x h refl run)
becomes count by x (step.Resume s) r c h ok run = inl (move-running move.Resume x h refl run)
becomes count by x (step.Pause s) r c h ok run = inl (move-running move.Pause x h refl run)
becomes count by x (step.Halt s) r c h ok run = inl (move-running move.Halt x h refl run)
becomes count by x (step.Reset s) r c h ok run = inl (move-running move.Reset x h refl run)
becomes count (Hart g) x (step.Dispatch s) r c h ok run = dispatch-becomes count g x s.vcpu r c h ok (dispatch-running g x h run)
becomes count (Terminal t) x (step.Dispatch s) r c h ok run = absurd ok
becomes count by x (step.Preempt s) r c h ok run = inl (move-running move.Preempt x h refl run)
becomes count by x (step.Take s) r c h ok run = inl (sym (take-same by x c s.vcpu r).0 ∙ run)
becomes count by x (step.Fetch s) r c h ok run = inl (fetch-becomes by x s r c h run)
becomes count by x (step.Access s) r c h ok run = inl (sym (access-same by x c s r).0 ∙ run)
becomes count by x (step.Pin s) r c h ok run = inl (pin-becomes by x (step.Pin s) r c h refl run)
becomes count by x _ r c h ok run = inl run

-- a hart whose current VCPU runs on it before and after a step of its own keeps it; x is what is known of the VCPU
none-some : (now : Option ℕ) (v : ℕ) → now ≡ None → now ≡ Some v → ⊥
none-some now v p q = cc

pub some-same : (now : Option ℕ) (v w : ℕ) → now ≡ Some v → now ≡ Some w → v ≡ w
some-same now v w p q = cc

-- a hart that waits shows it
waits-shown : (s : Fetch) (x : VcpuValue) (done : Fetched) (c : Carry) (h : ℕ) → done.outcome ≡ outcome.Wait → VcpuAgrees (Hart h) x (step.Fetch s) (reply.Fetch (Some done)) c
    → (vcpu_after (Hart h) x (step.Fetch s) (reply.Fetch (Some done)) c).state ≡ Running h → ⊥
waits-shown s x done c h wait ok run =
    waiting-stops x.state (carried_out x.context done.word).answer h (subst (λ o. Shows (carried_out x.context done.word).answer o) wait ok.4.0) run

module _ (count h : ℕ) (hart : HartState) (x : VcpuValue) (v : ℕ) (cur : current_of hart ≡ Some v) (was : x.state ≡ Running h) where
  -- what a step shows of the VCPU, where it touches it
  abbrev Shown : ActorId → Step → Reply → Carry → Type 0
  Shown by s r c = list_any (is_vcpu v) (components count by s r c) ≡ true → VcpuAgrees by x s r c × ((vcpu_after by x s r c).state ≡ Running h)

  named : (k : ℕ) → current_of hart ≡ Some k → (v == k) ≡ true
  named k now = eq-eqb v k (some-same (current_of hart) v k cur now)

  fetch-stays : (s : Fetch) (r : Reply) (c : Carry) → VcpuAgrees (Hart h) x (step.Fetch s) r c → (vcpu_after (Hart h) x (step.Fetch s) r c).state ≡ Running h → current_of (hart_after hart (step.Fetch s) r c) ≡ Some v
  fetch-stays s (reply.Fetch None) c ok run = used-same hart.current ∙ cur
  fetch-stays s (reply.Fetch (Some done)) c ok run =
      fetched-same hart s.generation done.outcome c (current_of (hart_after hart (step.Fetch s) (reply.Fetch (Some done)) c) ≡ Some v)
      (λ wait. absurd (waits-shown s x done c h wait ok run))
      (λ same. same ∙ cur)
  fetch-stays s r c ok run = absurd ok.4

  stays : (s : Step) (r : Reply) (c : Carry) → Asks hart.harts (current_of hart) s c → Shown (Hart h) s r c → current_of (hart_after hart s r c) ≡ Some v
  stays (step.Dispatch s) r c asks shown = absurd (none-some (current_of hart) v asks cur)
  stays (step.Preempt s) r c asks shown =
      let at = shown (or-true (v == s.vcpu) false (named s.vcpu asks)) in
      absurd (preempt-stops x h was at.1)
  stays (step.Leave s) r c asks shown =
      let at = shown (or-true (v == s.vcpu) false (named s.vcpu asks)) in
      absurd (true-false (runs_on (Hart h) x.state) (runs-there h x.state was) at.0.0)
  stays (step.Fetch s) r c asks shown =
      let at = shown (or-true (v == s.vcpu) (list_any (is_vcpu v) (reached s.generation s.row c.area)) (named s.vcpu asks)) in
      fetch-stays s r c at.0 at.1
  stays s r c asks shown = current-same hart s r c refl ∙ cur

  stays-by : (by : ActorId) (s : Step) (r : Reply) (c : Carry) → is_hart h by ≡ true → Asks hart.harts (current_of hart) s c → Shown by s r c → current_of (hart_after hart s r c) ≡ Some v
  stays-by (Terminal t) s r c is asks shown = absurd (cc)
  stays-by (Hart g) s r c is asks shown = stays s r c asks (subst (λ k. Shown (Hart k) s r c) (sym (eqb-true h g is)) shown)

abbrev RunsCurrent : Board → Type 0
RunsCurrent b = (v h : ℕ) → (b.vcpus v).state ≡ Running h → current_of (b.harts h) ≡ Some v

abbrev OwesSignals : Board → Type 0
OwesSignals b = (h : ℕ) → list_all is_signal (b.harts h).owed ≡ true

-- and each hart owes but samples and pins, so that no owed step takes its VCPU from it
pub record Currents (b : Board) : Type 0 where
  pub runs : RunsCurrent b
  pub owes : OwesSignals b

module _ (count : ℕ) (before after : Board) (made : Made) (is : IsStep count before after made) where
  abbrev touched_in : List CellId
  touched_in = components count made.by made.step made.reply made.carry

  abbrev hart_then : ℕ → HartState
  hart_then h = hart_after (before.harts h) made.step made.reply made.carry

  pub hart-step : (h : ℕ) (P : HartState → Type 0)
      → (is_hart h made.by ≡ true → HartAgrees h (before.harts h) made.step made.carry → P (hart_then h))
      → (is_hart h made.by ≡ false → P (before.harts h)) → P (after.harts h)
  hart-step h P = after-step P (is_hart h made.by) (HartAgrees h (before.harts h) made.step made.carry) (hart_then h) (before.harts h) (after.harts h) (is.actor h)

  abbrev RanBefore : ℕ → ℕ → Type 0
  RanBefore v h = ((before.vcpus v).state ≡ Running h) ⊎ ((is_hart h made.by ≡ true) × (current_of (hart_then h) ≡ Some v))

  ran-here : (v h : ℕ) → list_any (is_vcpu v) touched_in ≡ true → Ran count made.by (before.vcpus v) made.step made.reply made.carry h → RanBefore v h
  ran-here v h t (inl was) = inl was
  ran-here v h t (inr now) = inr (now.0, now.1 (before.harts h) v t)

  ran-before : (v h : ℕ) → (after.vcpus v).state ≡ Running h → RanBefore v h
  ran-before v h =
      vcpu-step touched_in before after made is.components v (λ x. x.state ≡ Running h → RanBefore v h)
      (λ t ok run. ran-here v h t (becomes count made.by (before.vcpus v) made.step made.reply made.carry h ok run))
      (λ t run. inl run)

  kept-where : RunsCurrent before → OwesSignals before → (v h : ℕ) → (after.vcpus v).state ≡ Running h → RanBefore v h → current_of (after.harts h) ≡ Some v
  kept-where J O v h run (inl was) =
      hart-step h (λ hart. current_of hart ≡ Some v)
      (λ t agreed.
      stays-by count h (before.harts h) (before.vcpus v) v (J v h was) was made.by made.step made.reply made.carry t
      (asked h (before.harts h) made.step made.carry (O h) agreed)
      (λ among. let at = vcpu-touched touched_in before after made is.components v among in (at.0, ap (λ x. x.state) (sym at.1) ∙ run)))
      (λ t. J v h was)
  kept-where J O v h run (inr now) =
      hart-step h (λ hart. current_of hart ≡ Some v) (λ t agreed. now.1) (λ t. absurd (true-false (is_hart h made.by) now.0 t))

  pub currents-kept : Currents before → Currents after
  currents-kept J = record {
    runs = λ v h run. kept-where J.runs J.owes v h run (ran-before v h run);
    owes = λ h.
        hart-step h (λ hart. list_all is_signal hart.owed ≡ true) (λ t agreed. signals-kept (before.harts h) made.step made.reply made.carry (J.owes h)) (λ t. J.owes h);
  }
