-- What steps make of a VCPU's state: which of them lead to one that runs.
use Rattle.std.proofs.Common.{◌≡◌, ℕ, Bool, true, false, ◌⊎◌, inl, inr, refl, eq-eqb, if◌then◌else◌, eqb-true, ap, sym}
use Rattle.std.specs.Prelude.{Option, None, Some, Ok}
use Rattle.hv_answer.specs.declared.reply.Outcome.TheVariants as outcome
use Rattle.hv_answer.specs.declared.reply.Reply.{Reply}
use Rattle.hv_answer.specs.declared.reply.Reply.TheVariants as reply
use Rattle.hv_event.specs.declared.event.ActorId.{ActorId}
use Rattle.hv_event.specs.declared.event.ActorId.TheVariants.{Hart}
use Rattle.hv_exec.specs.declared.context.After.{After}
use Rattle.hv_exec.specs.declared.context.After.TheVariants as after
use Rattle.hv_kinds.specs.declared.state.State.{State}
use Rattle.hv_kinds.specs.declared.state.State.TheVariants.{Unknown, Reset, Ready, Running, Paused, Halted}
use Rattle.hv_region.specs.declared.plan.VcpuPlan.{VcpuPlan}
use Rattle.hv_rules.specs.Carry.{Carry, Pending, load, store}
use Rattle.hv_rules.specs.Vcpu.{Shows, vcpu_after, runs_on, added, completed, dispatched}
use Rattle.hv_step.specs.declared.step.Access.{Access}
use Rattle.hv_step.specs.declared.step.Step.TheVariants as step
use Rattle.hv_vcpu.specs.Table.{led}
use Rattle.hv_vcpu.specs.Vcpu.{VcpuValue, stepped, moved_if, state_after, woken, wakes}
use Rattle.hv_vcpu.specs.declared.moves.Move.{Move}
use Rattle.hv_vcpu.specs.declared.moves.Move.TheVariants as move

pub runs-there : (h : ℕ) (x : State) → x ≡ Running h → runs_on (Hart h) x ≡ true
runs-there h x is = rw is (eq-eqb h h refl)

pub runs-here : (h : ℕ) (x : State) → runs_on (Hart h) x ≡ true → x ≡ Running h
runs-here h (Running g) is = ap Running (sym (eqb-true h g is))
runs-here h _ is = absurd (cc)

pub running-same : (x : State) (g h : ℕ) → x ≡ Running g → x ≡ Running h → g ≡ h
running-same x g h p q = cc

abbrev pub is_dispatch : Move → Bool
is_dispatch (move.Dispatch hart) = true
is_dispatch _ = false

-- a VCPU that runs after another move ran before it; s is its state
moved-running : (m : Move) (s : State) (x : VcpuValue) (h : ℕ) → is_dispatch m ≡ false → (moved_if m (led m s) x).state ≡ Running h → x.state ≡ Running h
moved-running (move.Dispatch hart) s x h other run = absurd (cc)
moved-running (move.Add birth index plan) Unknown x h other run = absurd (cc)
moved-running move.Kick Reset x h other run = absurd (cc)
moved-running move.Resume (Paused waits) x h other run = absurd (cc)
moved-running move.Preempt (Running hart) x h other run = absurd (cc)
moved-running move.Pause Ready x h other run = absurd (cc)
moved-running move.Pause (Running hart) x h other run = absurd (cc)
moved-running move.Halt Ready x h other run = absurd (cc)
moved-running move.Halt (Running hart) x h other run = absurd (cc)
moved-running move.Reset Ready x h other run = absurd (cc)
moved-running move.Reset (Running hart) x h other run = absurd (cc)
moved-running move.Reset (Paused waits) x h other run = absurd (cc)
moved-running move.Reset Halted x h other run = absurd (cc)
moved-running move.Drop Reset x h other run = absurd (cc)
moved-running move.Drop Ready x h other run = absurd (cc)
moved-running move.Drop (Running hart) x h other run = absurd (cc)
moved-running move.Drop (Paused waits) x h other run = absurd (cc)
moved-running move.Drop Halted x h other run = absurd (cc)
moved-running m s x h other run = run

pub move-running : (m : Move) (x : VcpuValue) (h : ℕ) → is_dispatch m ≡ false → (stepped m x).state ≡ Running h → x.state ≡ Running h
move-running m x h other run = moved-running m x.state x h other run

-- one that a preempt moves runs no more
preempted : (s : State) (x : VcpuValue) (h : ℕ) → s ≡ Running h → (moved_if move.Preempt (led move.Preempt s) x).state ≡ Running h → ⊥
preempted (Running hart) x h was run = cc
preempted _ x h was run = cc

pub preempt-stops : (x : VcpuValue) (h : ℕ) → x.state ≡ Running h → (stepped move.Preempt x).state ≡ Running h → ⊥
preempt-stops x h was run = preempted x.state x h was run

-- one that runs after a dispatch ran before it, or the dispatch went through, by the hart on which it runs
dispatched-running : (g : ℕ) (s : State) (x : VcpuValue) (slice : ℕ) (h : ℕ) → (moved_if (move.Dispatch g) (led (move.Dispatch g) s) x).state ≡ Running h
    → (x.state ≡ Running h) ⊎ ((g ≡ h) × (dispatched slice (led (move.Dispatch g) s) ≡ Ok slice))
dispatched-running g Ready x slice h run = inr (cc, refl)
dispatched-running g _ x slice h run = inl run

pub dispatch-running : (g : ℕ) (x : VcpuValue) (h : ℕ) → (stepped (move.Dispatch g) x).state ≡ Running h
    → (x.state ≡ Running h) ⊎ ((g ≡ h) × (dispatched x.plan.slice (led (move.Dispatch g) x.state) ≡ Ok x.plan.slice))
dispatch-running g x h run = dispatched-running g x.state x x.plan.slice h run

pub added-running : (x : VcpuValue) (birth : ℕ) (plan : Option (ℕ × VcpuPlan)) (h : ℕ) → (added x birth plan).state ≡ Running h → x.state ≡ Running h
added-running x birth None h run = run
added-running x birth (Some plan) h run = move-running (move.Add birth plan.0 plan.1) x h refl run

pub woken-running : (x : VcpuValue) (h : ℕ) → (woken x).state ≡ Running h → x.state ≡ Running h
woken-running x h =
    elim (wakes x) as (λ b. (if b then record x { state = Ready } else x).state ≡ Running h → x.state ≡ Running h) [ true ↦ λ run. absurd (cc) | false ↦ λ run. run ]

-- an instruction that waits ends the run of its VCPU; no other leads to a state that runs
pub fetched-running : (s : State) (a : After) (h : ℕ) → state_after s a ≡ Running h → s ≡ Running h
fetched-running s after.Wait h run = absurd (cc)
fetched-running s _ h run = run

pub waiting-stops : (s : State) (a : After) (h : ℕ) → Shows a outcome.Wait → state_after s a ≡ Running h → ⊥
waiting-stops s after.Wait h shown run = cc
waiting-stops s after.Done h shown run = cc
waiting-stops s (after.Load address size is_signed register) h shown run = cc
waiting-stops s (after.Store address size value) h shown run = cc
waiting-stops s (after.Trap cause value) h shown run = cc
waiting-stops s after.System h shown run = shown

-- an interrupt, an access and a fault leave state and plan
pub completed-same : (x : VcpuValue) (pending : Option Pending) (value : ℕ) → ((completed pending value x).state ≡ x.state) × ((completed pending value x).plan ≡ x.plan)
completed-same x None value = (refl, refl)
completed-same x (Some (load address size is_signed register)) value = (refl, refl)
completed-same x (Some (store address size stored_value)) value = (refl, refl)

module _ (by : ActorId) (x : VcpuValue) (c : Carry) where
  abbrev Same : VcpuValue → Type 0
  Same y = (y.state ≡ x.state) × (y.plan ≡ x.plan)

  pub take-same : (vcpu : ℕ) (r : Reply) → Same (vcpu_after by x (step.Take (record { vcpu = vcpu })) r c)
  take-same vcpu (reply.Take cause) = (refl, refl)
  take-same vcpu _ = (refl, refl)

  pub access-same : (s : Access) (r : Reply) → Same (vcpu_after by x (step.Access s) r c)
  access-same s (reply.Access None) = (refl, refl)
  access-same s (reply.Access (Some accessed)) = completed-same x c.pending accessed.value
  access-same s _ = (refl, refl)
