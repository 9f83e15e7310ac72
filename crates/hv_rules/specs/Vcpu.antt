-- The component of a VCPU: to which events it agrees, and what an event leaves in it.
use Rattle.std.specs.Prelude.{◌≡◌, ℕ, ◌==◌, Bool, true, false, Option, None, Some, Result, Ok, Err, drop, replicate}
use Rattle.hv_answer.specs.declared.reply.Outcome.{Outcome}
use Rattle.hv_answer.specs.declared.reply.Outcome.TheVariants as outcome
use Rattle.hv_answer.specs.declared.reply.Reply.{Reply}
use Rattle.hv_answer.specs.declared.reply.Reply.TheVariants as reply
use Rattle.hv_event.specs.declared.event.ActorId.{ActorId}
use Rattle.hv_event.specs.declared.event.ActorId.TheVariants.{Hart}
use Rattle.hv_exec.specs.declared.causes.TheConstants.{INSTRUCTION_ACCESS_FAULT, LOAD_ACCESS_FAULT, STORE_ACCESS_FAULT}
use Rattle.hv_exec.specs.declared.context.After.{After}
use Rattle.hv_exec.specs.declared.context.After.TheVariants as after
use Rattle.hv_exec.specs.declared.context.Ctx.{Ctx}
use Rattle.hv_kinds.specs.declared.access.AccessKind.{AccessKind}
use Rattle.hv_kinds.specs.declared.access.AccessKind.TheVariants as access
use Rattle.hv_kinds.specs.declared.access.Direction.{Direction}
use Rattle.hv_kinds.specs.declared.access.Direction.TheVariants.{Read, Write}
use Rattle.hv_kinds.specs.declared.state.State.{State}
use Rattle.hv_kinds.specs.declared.state.State.TheVariants as state
use Rattle.hv_kinds.specs.declared.state.StateName.{StateName}
use Rattle.hv_kinds.specs.declared.state.StateName.TheVariants as name
use Rattle.hv_look.specs.declared.look.Look.{Look}
use Rattle.hv_look.specs.declared.look.Registers.{Registers}
use Rattle.hv_region.specs.declared.plan.VcpuPlan.{VcpuPlan}
use Rattle.hv_refusal.specs.declared.refusal.Refusal.{Refusal}
use Rattle.hv_refusal.specs.declared.refusal.Refusal.TheVariants as refusal
use Rattle.hv_step.specs.declared.step.Step.{Step}
use Rattle.hv_step.specs.declared.step.Step.TheVariants as step
use Rattle.hv_trap.specs.Csr.{mstatus_of}
use Rattle.hv_trap.specs.Trap.{chosen}
use Rattle.hv_vcpu.specs.Instruction.{IsAccess, carried_out}
use Rattle.hv_vcpu.specs.Table.{led}
use Rattle.hv_vcpu.specs.Vcpu.{VcpuValue, birth_of, stepped, after_fetch, after_trap, loaded, stored, with_pins, woken, wakes}
use Rattle.hv_vcpu.specs.declared.moves.Move.TheVariants as move
use Rattle.hv_vcpu.specs.declared.moves.WrongState.{WrongState}
use Rattle.hv_rules.specs.Carry.{Carry, Pending, load, store}

-- The name of a state, as a refusal shows it.
abbrev pub name_of : State → StateName
name_of state.Unknown = name.Unknown
name_of state.Reset = name.Reset
name_of state.Ready = name.Ready
name_of (state.Running hart) = name.Running
name_of (state.Paused waits) = name.Paused
name_of state.Halted = name.Halted

-- Whether a VCPU in a state runs on the hart that an actor is; a terminal is none.
abbrev pub runs_on : ActorId → State → Bool
runs_on (Hart h) (state.Running hart) = h == hart
runs_on _ _ = false

-- What a move gives, as a step's reply shows it.
abbrev pub answered : Result State WrongState → Result (Unit {0}) Refusal
answered (Ok led_to) = Ok tt
answered (Err wrong) = Err (refusal.WrongState (name_of wrong.0))

-- A dispatch gives the slice of the VCPU.
abbrev pub dispatched : (slice : ℕ) → Result State WrongState → Result ℕ Refusal
dispatched slice (Ok led_to) = Ok slice
dispatched slice (Err wrong) = Err (refusal.WrongState (name_of wrong.0))

-- What a fetched instruction came to, as a reply shows it; none is left to a system instruction.
abbrev pub Shows : After → Outcome → Type 0
Shows after.Done shown = shown ≡ outcome.Done
Shows after.Wait shown = shown ≡ outcome.Wait
Shows (after.Load address size is_signed register) shown = shown ≡ outcome.Access
Shows (after.Store address size value) shown = shown ≡ outcome.Access
Shows (after.Trap cause value) shown = shown ≡ outcome.Trap cause
Shows after.System shown = ⊥

-- The access that an instruction leaves pending.
abbrev pub pending_of : After → Option Pending
pending_of (after.Load address size is_signed register) = Some (load address size is_signed register)
pending_of (after.Store address size value) = Some (store address size value)
pending_of _ = None

-- A pending access is one that an instruction can leave.
abbrev pub IsPending : Pending → Type 0
IsPending (load address size is_signed register) = IsAccess (after.Load address size is_signed register)
IsPending (store address size value) = IsAccess (after.Store address size value)

-- The cause of an access that no window holds or that is denied.
abbrev pub fault_cause : AccessKind → ℕ
fault_cause access.Execute = INSTRUCTION_ACCESS_FAULT
fault_cause access.Read = LOAD_ACCESS_FAULT
fault_cause access.Write = STORE_ACCESS_FAULT

abbrev pub denied_cause : Direction → ℕ
denied_cause Read = LOAD_ACCESS_FAULT
denied_cause Write = STORE_ACCESS_FAULT

-- What a look shows of the context: pc, the registers x1 to x31, and the control and status registers as a read gives
-- them.
abbrev pub shown_registers : Ctx → Registers
shown_registers ctx = record {
  pc = ctx.pc;
  x = drop 1 ctx.x;
  csrs = record {
    mstatus = mstatus_of ctx;
    mie = ctx.mie;
    mtvec = ctx.mtvec;
    mscratch = ctx.mscratch;
    mepc = ctx.mepc;
    mcause = ctx.mcause;
    mtval = ctx.mtval;
  };
}

-- For a VCPU of no guest every number is 0.
abbrev pub no_registers : Registers
no_registers = record {
  pc = 0;
  x = replicate 31 0;
  csrs = record { mstatus = 0; mie = 0; mtvec = 0; mscratch = 0; mepc = 0; mcause = 0; mtval = 0 };
}

-- What a look at a VCPU shows.
abbrev pub look_in : State → VcpuValue → Look
look_in state.Unknown v = record { state = state.Unknown; priority = 0; slice = 0; registers = no_registers }
look_in s v = record {
  state = s;
  priority = v.plan.priority;
  slice = v.plan.slice;
  registers = shown_registers v.context;
}

abbrev pub is_same : ℕ → Option ℕ → Bool
is_same birth None = false
is_same birth (Some own) = birth == own

-- Whether a VCPU is of the guest with this birth; one of no guest is of none.
abbrev pub is_of : (birth : ℕ) → VcpuValue → Bool
is_of birth v = is_same birth (birth_of v)

-- A VCPU is added with the index and the plan that are handed over.
abbrev pub AgreesToAdd : VcpuValue → (birth : ℕ) → Option (ℕ × VcpuPlan) → Reply → Type 0
AgreesToAdd v birth None r = ⊥
AgreesToAdd v birth (Some plan) r = r ≡ reply.Vadd (answered (led (move.Add birth plan.0 plan.1) v.state))

-- The interrupt that can be taken is the one that is told.
abbrev pub TakesInterrupt : Option ℕ → Reply → Type 0
TakesInterrupt None r = ⊥
TakesInterrupt (Some cause) r = r ≡ reply.Take cause

-- Where the body gives an instruction the reply shows what it came to, and what it leaves pending is handed over.
abbrev pub AgreesToFetch : VcpuValue → Reply → Carry → Type 0
AgreesToFetch v (reply.Fetch None) c = c.pending ≡ None
AgreesToFetch v (reply.Fetch (Some fetched)) c =
    Shows (carried_out v.context fetched.word).answer fetched.outcome
    × (c.pending ≡ pending_of (carried_out v.context fetched.word).answer)
AgreesToFetch v _ c = ⊥

-- A fault of an instruction is at the VCPU's pc; of a load or store the hart says where.
abbrev pub AgreesToFault : VcpuValue → AccessKind → (address : ℕ) → Type 0
AgreesToFault v access.Execute address = (address ≡ v.context.pc) × (chosen v.context ≡ None)
AgreesToFault v access.Read address = Unit {0}
AgreesToFault v access.Write address = Unit {0}

-- A pin is gone where the VCPU's guest is, and then no queue needs a priority; else the reply tells whether it wakes
-- the VCPU.
abbrev pub AgreesToPin : VcpuValue → (row birth : ℕ) → Reply → Carry → Type 0
AgreesToPin v row birth (reply.Pin None) c = (is_of birth v ≡ false) × (c.priority ≡ None)
AgreesToPin v row birth (reply.Pin (Some pinned)) c =
    (is_of birth v ≡ true) × (pinned.woke ≡ wakes (with_pins row pinned.pins v)) × (c.priority ≡ Some v.plan.priority)
AgreesToPin v row birth _ c = ⊥

-- A VCPU agrees to a step of an actor: a change of state is answered by the table of states, a hart's step is by the
-- hart that it runs on, and it runs no instruction while an interrupt can be taken.
abbrev pub VcpuAgrees : (by : ActorId) → VcpuValue → Step → Reply → Carry → Type 0
VcpuAgrees by v (step.Vadd s) r c = AgreesToAdd v s.birth c.vcpu r
VcpuAgrees by v (step.Vdrop s) r c = r ≡ reply.Vdrop (answered (led move.Drop v.state))
VcpuAgrees by v (step.Kick s) r c =
    (r ≡ reply.Kick (answered (led move.Kick v.state))) × (c.priority ≡ Some v.plan.priority)
VcpuAgrees by v (step.Resume s) r c =
    (r ≡ reply.Resume (answered (led move.Resume v.state))) × (c.priority ≡ Some v.plan.priority)
VcpuAgrees by v (step.Pause s) r c = r ≡ reply.Pause (answered (led move.Pause v.state))
VcpuAgrees by v (step.Halt s) r c = r ≡ reply.Halt (answered (led move.Halt v.state))
VcpuAgrees by v (step.Reset s) r c = r ≡ reply.Reset (answered (led move.Reset v.state))
VcpuAgrees by v (step.Look s) r c = r ≡ reply.Look (look_in v.state v)
VcpuAgrees (Hart h) v (step.Dispatch s) r c =
    r ≡ reply.Dispatch (dispatched v.plan.slice (led (move.Dispatch h) v.state))
VcpuAgrees by v (step.Preempt s) r c =
    (runs_on by v.state ≡ true) × (r ≡ reply.Preempt) × (c.priority ≡ Some v.plan.priority)
VcpuAgrees by v (step.Leave s) r c = (runs_on by v.state ≡ false) × (r ≡ reply.Leave v.state)
VcpuAgrees by v (step.Balance s) r c = runs_on by v.state ≡ true
VcpuAgrees by v (step.Take s) r c = (runs_on by v.state ≡ true) × TakesInterrupt (chosen v.context) r
VcpuAgrees by v (step.Fetch s) r c =
    (runs_on by v.state ≡ true)
    × (chosen v.context ≡ None)
    × (s.generation.birth ≡ v.birth)
    × (c.pc ≡ Some v.context.pc)
    × AgreesToFetch v r c
VcpuAgrees by v (step.Access s) r c = (runs_on by v.state ≡ true) × (s.generation.birth ≡ v.birth)
VcpuAgrees by v (step.Fault s) r c =
    (runs_on by v.state ≡ true)
    × (s.generation.birth ≡ v.birth)
    × AgreesToFault v s.access s.address
    × (r ≡ reply.Fault (fault_cause s.access))
VcpuAgrees by v (step.Pin s) r c = AgreesToPin v s.row s.generation.birth r c
VcpuAgrees by v _ r c = ⊥

-- The VCPU that is added.
abbrev pub added : VcpuValue → (birth : ℕ) → Option (ℕ × VcpuPlan) → VcpuValue
added v birth None = v
added v birth (Some plan) = stepped (move.Add birth plan.0 plan.1) v

-- The VCPU once its pending access is answered.
abbrev pub completed : Option Pending → (value : ℕ) → VcpuValue → VcpuValue
completed None value v = v
completed (Some (load address size is_signed register)) value v = loaded v size is_signed register value
completed (Some (store address size stored_value)) value v = stored v

-- What an event leaves of a VCPU: a state that is refused stays, and what no body answers or a body denies is a trap.
abbrev pub vcpu_after : (by : ActorId) → VcpuValue → Step → Reply → Carry → VcpuValue
vcpu_after by v (step.Vadd s) r c = added v s.birth c.vcpu
vcpu_after by v (step.Vdrop s) r c = stepped move.Drop v
vcpu_after by v (step.Kick s) r c = stepped move.Kick v
vcpu_after by v (step.Resume s) r c = stepped move.Resume v
vcpu_after by v (step.Pause s) r c = stepped move.Pause v
vcpu_after by v (step.Halt s) r c = stepped move.Halt v
vcpu_after by v (step.Reset s) r c = stepped move.Reset v
vcpu_after (Hart h) v (step.Dispatch s) r c = stepped (move.Dispatch h) v
vcpu_after by v (step.Preempt s) r c = stepped move.Preempt v
vcpu_after by v (step.Take s) (reply.Take cause) c = after_trap v cause 0
vcpu_after by v (step.Fetch s) (reply.Fetch None) c = after_trap v INSTRUCTION_ACCESS_FAULT v.context.pc
vcpu_after by v (step.Fetch s) (reply.Fetch (Some fetched)) c = after_fetch v fetched.word
vcpu_after by v (step.Access s) (reply.Access None) c = after_trap v (denied_cause s.direction) s.address
vcpu_after by v (step.Access s) (reply.Access (Some accessed)) c = completed c.pending accessed.value v
vcpu_after by v (step.Fault s) r c = after_trap v (fault_cause s.access) s.address
vcpu_after by v (step.Pin s) (reply.Pin (Some pinned)) c = woken (with_pins s.row pinned.pins v)
vcpu_after by v _ r c = v
