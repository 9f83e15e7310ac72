-- What a step makes of a VCPU's birth.
use Rattle.std.proofs.Common.{◌≡◌, ℕ, ◌⊎◌, inl, inr, Bool, true, false, ◌&&◌, if◌then◌else◌, refl, sym, ap}
use Rattle.std.specs.Prelude.{Option, None, Some}
use Rattle.hv_answer.specs.declared.reply.Reply.{Reply}
use Rattle.hv_answer.specs.declared.reply.Reply.TheVariants as reply
use Rattle.hv_event.specs.declared.event.ActorId.{ActorId}
use Rattle.hv_event.specs.declared.event.ActorId.TheVariants.{Hart, Terminal}
use Rattle.hv_exec.specs.declared.context.After.{After}
use Rattle.hv_exec.specs.declared.context.After.TheVariants as after
use Rattle.hv_kinds.specs.declared.state.State.{State as VcpuState}
use Rattle.hv_kinds.specs.declared.state.State.TheVariants.{Unknown, Reset, Ready, Running, Paused, Halted}
use Rattle.hv_laws.proofs.States.{runs-here}
use Rattle.hv_region.specs.declared.plan.VcpuPlan.{VcpuPlan}
use Rattle.hv_rules.specs.Carry.{Carry, Pending, load, store}
use Rattle.hv_rules.specs.Vcpu.{VcpuAgrees, added, completed, runs_on, vcpu_after}
use Rattle.hv_step.specs.declared.step.Step.{Step}
use Rattle.hv_step.specs.declared.step.Step.TheVariants as step
use Rattle.hv_vcpu.specs.Instruction.{carried_out}
use Rattle.hv_vcpu.specs.Table.{is_waiting, led}
use Rattle.hv_vcpu.specs.Vcpu.{VcpuValue, birth_of, has_interrupt, moved_if, state_after as state_then, stepped, unless_unknown, with_pins}
use Rattle.hv_vcpu.specs.declared.moves.Move.{Move}
use Rattle.hv_vcpu.specs.declared.moves.Move.TheVariants as move

abbrev keeps : Move → Bool
keeps (move.Add birth index plan) = false
keeps move.Drop = false
keeps m = true

moved-birth : (m : Move) (s : VcpuState) (x : VcpuValue) → keeps m ≡ true → x.state ≡ s → birth_of (moved_if m (led m s) x) ≡ unless_unknown s x.birth
moved-birth (move.Add birth index plan) s x kept is = absurd (cc kept)
moved-birth move.Drop s x kept is = absurd (cc kept)
moved-birth move.Kick Reset x kept is = refl
moved-birth move.Resume (Paused waits) x kept is = refl
moved-birth (move.Dispatch hart) Ready x kept is = refl
moved-birth move.Preempt (Running hart) x kept is = refl
moved-birth move.Pause Ready x kept is = refl
moved-birth move.Pause (Running hart) x kept is = refl
moved-birth move.Halt Ready x kept is = refl
moved-birth move.Halt (Running hart) x kept is = refl
moved-birth move.Reset Ready x kept is = refl
moved-birth move.Reset (Running hart) x kept is = refl
moved-birth move.Reset (Paused waits) x kept is = refl
moved-birth move.Reset Halted x kept is = refl
moved-birth m s x kept is = ap (λ (z : VcpuState). unless_unknown z x.birth) is

stepped-birth : (m : Move) (x : VcpuValue) → keeps m ≡ true → birth_of (stepped m x) ≡ birth_of x
stepped-birth m x kept = moved-birth m x.state x kept refl

dropped-birth : (s : VcpuState) (x : VcpuValue) → x.state ≡ s → (birth_of (moved_if move.Drop (led move.Drop s) x) ≡ birth_of x) ⊎ (birth_of (moved_if move.Drop (led move.Drop s) x) ≡ None)
dropped-birth Unknown x is = inl refl
dropped-birth Reset x is = inr refl
dropped-birth Ready x is = inr refl
dropped-birth (Running hart) x is = inr refl
dropped-birth (Paused waits) x is = inr refl
dropped-birth Halted x is = inr refl

adds : (birth index : ℕ) (plan : VcpuPlan) (s : VcpuState) (x : VcpuValue)
    → (birth_of (moved_if (move.Add birth index plan) (led (move.Add birth index plan) s) x) ≡ birth_of x)
    ⊎ (birth_of (moved_if (move.Add birth index plan) (led (move.Add birth index plan) s) x) ≡ Some birth)
adds birth index plan Unknown x = inr refl
adds birth index plan s x = inl refl

added-birth : (x : VcpuValue) (birth : ℕ) (plan : Option (ℕ × VcpuPlan)) → (birth_of (added x birth plan) ≡ birth_of x) ⊎ (birth_of (added x birth plan) ≡ Some birth)
added-birth x birth None = inl refl
added-birth x birth (Some plan) = adds birth plan.0 plan.1 x.state x

fetched-birth : (s : VcpuState) (h birth : ℕ) (answer : After) → s ≡ Running h → unless_unknown (state_then s answer) birth ≡ unless_unknown s birth
fetched-birth s h birth after.Wait is = sym (ap (λ (z : VcpuState). unless_unknown z birth) is)
fetched-birth s h birth _ is = refl

woken-birth : (s : VcpuState) (birth : ℕ) (interrupt : Bool) (x : VcpuValue) → x.state ≡ s → x.birth ≡ birth
    → birth_of (if is_waiting s && interrupt then record x { state = Ready } else x) ≡ unless_unknown s birth
woken-birth (Paused true) birth true x is born = ap Some born
woken-birth (Paused true) birth false x is born = λ i. unless_unknown (is i) (born i)
woken-birth (Paused false) birth interrupt x is born = λ i. unless_unknown (is i) (born i)
woken-birth s birth interrupt x is born = λ i. unless_unknown (is i) (born i)

completed-birth : (x : VcpuValue) (pending : Option Pending) (value : ℕ) → birth_of (completed pending value x) ≡ birth_of x
completed-birth x None value = refl
completed-birth x (Some (load address size is_signed register)) value = refl
completed-birth x (Some (store address size stored_value)) value = refl

abbrev pub Adds : Step → Option ℕ → Type 0
Adds (step.Vadd s) birth = birth ≡ Some s.birth
Adds _ birth = ⊥

abbrev pub Turns : VcpuValue → Step → VcpuValue → Type 0
Turns x s y = (birth_of y ≡ birth_of x) ⊎ ((birth_of y ≡ None) ⊎ Adds s (birth_of y))

take-birth : (by : ActorId) (x : VcpuValue) (v : ℕ) (r : Reply) (c : Carry) → birth_of (vcpu_after by x (step.Take (record { vcpu = v })) r c) ≡ birth_of x
take-birth by x v (reply.Take cause) c = refl
take-birth by x v _ c = refl

running : (by : ActorId) (s : VcpuState) → runs_on by s ≡ true → (h : ℕ) × (s ≡ Running h)
running (Hart h) s is = (h, runs-here h s is)
running (Terminal t) s is = absurd (cc is)

pub vcpu-birth : (by : ActorId) (x : VcpuValue) (s : Step) (r : Reply) (c : Carry) → VcpuAgrees by x s r c → Turns x s (vcpu_after by x s r c)
vcpu-birth by x (step.Vadd s) r c ok = elim (added-birth x s.birth c.vcpu) [ inl same ↦ inl same | inr new ↦ inr (inr new) ]
vcpu-birth by x (step.Vdrop s) r c ok = elim (dropped-birth x.state x refl) [ inl same ↦ inl same | inr none ↦ inr (inl none) ]
vcpu-birth by x (step.Kick s) r c ok = inl (stepped-birth move.Kick x refl)
vcpu-birth by x (step.Resume s) r c ok = inl (stepped-birth move.Resume x refl)
vcpu-birth by x (step.Pause s) r c ok = inl (stepped-birth move.Pause x refl)
vcpu-birth by x (step.Halt s) r c ok = inl (stepped-birth move.Halt x refl)
vcpu-birth by x (step.Reset s) r c ok = inl (stepped-birth move.Reset x refl)
vcpu-birth (Hart h) x (step.Dispatch s) r c ok = inl (stepped-birth (move.Dispatch h) x refl)
vcpu-birth (Terminal t) x (step.Dispatch s) r c ok = absurd ok
vcpu-birth by x (step.Preempt s) r c ok = inl (stepped-birth move.Preempt x refl)
vcpu-birth by x (step.Take s) r c ok = inl (take-birth by x s.vcpu r c)
vcpu-birth by x (step.Fetch s) (reply.Fetch None) c ok = inl refl
vcpu-birth by x (step.Fetch s) (reply.Fetch (Some done)) c ok =
    let run = running by x.state ok.0 in
    inl (fetched-birth x.state run.0 x.birth (carried_out x.context done.word).answer run.1)
vcpu-birth by x (step.Fetch s) r c ok = absurd ok.4
vcpu-birth by x (step.Access s) (reply.Access None) c ok = inl refl
vcpu-birth by x (step.Access s) (reply.Access (Some accessed)) c ok = inl (completed-birth x c.pending accessed.value)
vcpu-birth by x (step.Access s) r c ok = inl refl
vcpu-birth by x (step.Pin s) (reply.Pin None) c ok = inl refl
vcpu-birth by x (step.Pin s) (reply.Pin (Some pinned)) c ok =
    let y = with_pins s.row pinned.pins x in
    inl (woken-birth x.state x.birth (has_interrupt y.context) y refl refl)
vcpu-birth by x (step.Pin s) r c ok = absurd ok
vcpu-birth by x _ r c ok = inl refl

-- a VCPU that is dropped is there no more
no-birth : (s : VcpuState) (x : VcpuValue) → x.state ≡ s → birth_of (moved_if move.Drop (led move.Drop s) x) ≡ None
no-birth Unknown x is = ap (λ (z : VcpuState). unless_unknown z x.birth) is
no-birth Reset x is = refl
no-birth Ready x is = refl
no-birth (Running hart) x is = refl
no-birth (Paused waits) x is = refl
no-birth Halted x is = refl

pub drops-birth : (x : VcpuValue) → birth_of (stepped move.Drop x) ≡ None
drops-birth x = no-birth x.state x refl
