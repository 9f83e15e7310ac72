-- What a VCPU is worth in the queues: by its priority where it is ready, and else nothing; and what steps make of that.
use Rattle.std.proofs.Common.{◌≡◌, ℕ, Bool, true, false, if◌then◌else◌, refl, ap, sym, ◌∙◌}
use Rattle.std.specs.Prelude.{Option, None, Some, is_ok, ◌&&◌}
use Rattle.hv_answer.specs.declared.reply.Reply.{Reply}
use Rattle.hv_answer.specs.declared.reply.Reply.TheVariants as reply
use Rattle.hv_event.specs.declared.event.ActorId.{ActorId}
use Rattle.hv_event.specs.declared.event.ActorId.TheVariants.{Hart, Terminal}
use Rattle.hv_exec.specs.declared.context.After.{After}
use Rattle.hv_exec.specs.declared.context.After.TheVariants as after
use Rattle.hv_kinds.specs.declared.state.State.{State}
use Rattle.hv_kinds.specs.declared.state.State.TheVariants.{Unknown, Reset, Ready, Running, Paused}
use Rattle.hv_region.specs.declared.plan.VcpuPlan.{VcpuPlan}
use Rattle.hv_rules.specs.Carry.{Carry}
use Rattle.hv_rules.specs.Vcpu.{vcpu_after, runs_on, added}
use Rattle.hv_step.specs.declared.step.Fetch.{Fetch}
use Rattle.hv_step.specs.declared.step.Step.TheVariants as step
use Rattle.hv_vcpu.specs.Instruction.{carried_out}
use Rattle.hv_vcpu.specs.Table.{led, is_waiting}
use Rattle.hv_vcpu.specs.Vcpu.{VcpuValue, moved_if, state_after, wakes, woken, has_interrupt}
use Rattle.hv_vcpu.specs.declared.moves.Move.{Move}
use Rattle.hv_vcpu.specs.declared.moves.Move.TheVariants as move
use Rattle.hv_laws.specs.Laws.{is_ready}

abbrev pub worth : (ℕ → ℕ) → VcpuValue → ℕ
worth f x = if is_ready x.state then f x.plan.priority else 0

pub worth-none : (f : ℕ → ℕ) (x : VcpuValue) → is_ready x.state ≡ false → worth f x ≡ 0
worth-none f x is = ap (λ b. if b then f x.plan.priority else 0) is

pub worth-same : (f : ℕ → ℕ) (x y : VcpuValue) → (y.state ≡ x.state) × (y.plan ≡ x.plan) → worth f y ≡ worth f x
worth-same f x y same = ap (λ s. if is_ready s then f y.plan.priority else 0) same.0 ∙ ap (λ p. if is_ready x.state then f p.priority else 0) same.1

pub running-not-ready : (by : ActorId) (s : State) → runs_on by s ≡ true → is_ready s ≡ false
running-not-ready (Hart h) (Running hart) is = refl
running-not-ready by Ready is = absurd (none by is)
  where
    none : (by : ActorId) → runs_on by Ready ≡ true → ⊥
    none (Hart h) is = cc
    none (Terminal t) is = cc
running-not-ready by _ is = refl

-- moves that make a VCPU ready, and moves that end that it is ready
abbrev pub is_arrival : Move → Bool
is_arrival move.Kick = true
is_arrival move.Resume = true
is_arrival move.Preempt = true
is_arrival _ = false

pub arrival-worth : (f : ℕ → ℕ) (m : Move) (s : State) (x : VcpuValue) → is_arrival m ≡ true → worth f (moved_if m (led m s) x) ≡ (if is_ok (led m s) then f x.plan.priority else worth f x)
arrival-worth f move.Kick Reset x is = refl
arrival-worth f move.Kick _ x is = refl
arrival-worth f move.Resume (Paused waits) x is = refl
arrival-worth f move.Resume _ x is = refl
arrival-worth f move.Preempt (Running hart) x is = refl
arrival-worth f move.Preempt _ x is = refl
arrival-worth f _ s x is = absurd (cc)

pub arrival-not-ready : (m : Move) (s : State) → is_arrival m ≡ true → is_ok (led m s) ≡ true → is_ready s ≡ false
arrival-not-ready move.Kick Ready is ok = absurd (cc)
arrival-not-ready move.Resume Ready is ok = absurd (cc)
arrival-not-ready move.Preempt Ready is ok = absurd (cc)
arrival-not-ready move.Kick _ is ok = refl
arrival-not-ready move.Resume _ is ok = refl
arrival-not-ready move.Preempt _ is ok = refl
arrival-not-ready _ s is ok = absurd (cc)

abbrev pub is_departure : Move → Bool
is_departure move.Pause = true
is_departure move.Halt = true
is_departure move.Reset = true
is_departure move.Drop = true
is_departure (move.Dispatch hart) = true
is_departure _ = false

pub departure-worth : (f : ℕ → ℕ) (m : Move) (s : State) (x : VcpuValue) → is_departure m ≡ true → worth f (moved_if m (led m s) x) ≡ (if is_ok (led m s) then 0 else worth f x)
departure-worth f move.Pause Ready x is = refl
departure-worth f move.Pause (Running hart) x is = refl
departure-worth f move.Pause _ x is = refl
departure-worth f move.Halt Ready x is = refl
departure-worth f move.Halt (Running hart) x is = refl
departure-worth f move.Halt _ x is = refl
departure-worth f move.Reset Unknown x is = refl
departure-worth f move.Reset Reset x is = refl
departure-worth f move.Reset _ x is = refl
departure-worth f move.Drop Unknown x is = refl
departure-worth f move.Drop _ x is = refl
departure-worth f (move.Dispatch hart) Ready x is = refl
departure-worth f (move.Dispatch hart) _ x is = refl
departure-worth f _ s x is = absurd (cc)

-- a preempt goes through where the VCPU runs on its actor
pub preempts : (by : ActorId) (s : State) → runs_on by s ≡ true → is_ok (led move.Preempt s) ≡ true
preempts (Hart h) (Running hart) is = refl
preempts (Hart h) _ is = absurd (cc)
preempts (Terminal t) _ is = absurd (cc)

-- a VCPU that is added is ready neither before nor after it; s is its state
add-worth : (f : ℕ → ℕ) (birth index : ℕ) (plan : VcpuPlan) (s : State) (x : VcpuValue) → x.state ≡ s
    → worth f (moved_if (move.Add birth index plan) (led (move.Add birth index plan) s) x) ≡ worth f x
add-worth f birth index plan Unknown x is = sym (worth-none f x (ap is_ready is))
add-worth f birth index plan _ x is = refl

pub added-worth : (f : ℕ → ℕ) (x : VcpuValue) (birth : ℕ) (plan : Option (ℕ × VcpuPlan)) → worth f (added x birth plan) ≡ worth f x
added-worth f x birth None = refl
added-worth f x birth (Some plan) = add-worth f birth plan.0 plan.1 x.state x refl

-- a VCPU that an interrupt wakes was not ready
waiting-not-ready : (s : State) (b : Bool) → (is_waiting s && b) ≡ true → is_ready s ≡ false
waiting-not-ready Ready b is = absurd (cc)
waiting-not-ready _ b is = refl

pub wakes-not-ready : (x : VcpuValue) → wakes x ≡ true → is_ready x.state ≡ false
wakes-not-ready x is = waiting-not-ready x.state (has_interrupt x.context) is

pub woken-worth : (f : ℕ → ℕ) (x : VcpuValue) → worth f (woken x) ≡ (if wakes x then f x.plan.priority else worth f x)
woken-worth f x = elim (wakes x) as (λ b. worth f (if b then record x { state = Ready } else x) ≡ (if b then f x.plan.priority else worth f x)) [ true ↦ refl | false ↦ refl ]

-- a VCPU that runs is not ready after an instruction
fetched-not-ready : (s : State) (a : After) → is_ready s ≡ false → is_ready (state_after s a) ≡ false
fetched-not-ready s after.Wait is = refl
fetched-not-ready s _ is = is

pub fetch-worth : (f : ℕ → ℕ) (by : ActorId) (x : VcpuValue) (s : Fetch) (r : Reply) (c : Carry) → runs_on by x.state ≡ true → worth f (vcpu_after by x (step.Fetch s) r c) ≡ worth f x
fetch-worth f by x s (reply.Fetch None) c runs = refl
fetch-worth f by x s (reply.Fetch (Some done)) c runs =
    let was = running-not-ready by x.state runs in
    worth-none f (vcpu_after by x (step.Fetch s) (reply.Fetch (Some done)) c) (fetched-not-ready x.state (carried_out x.context done.word).answer was) ∙ sym (worth-none f x was)
fetch-worth f by x s r c runs = refl
