-- The steps that harts choose, and which of them their components allow.
use Rattle.std.specs.Prelude.{◌≡◌, ℕ, ◌<◌, ◌==◌, true, false, List, length, Option, None, Some, IsSome, option_map}
use Rattle.hv_event.specs.declared.event.ActorId.TheVariants.{Hart}
use Rattle.hv_queue.specs.Queue.{head_of}
use Rattle.hv_queue.specs.declared.entry.QueueEntry.{QueueEntry}
use Rattle.hv_region.specs.declared.window.Window.{Window}
use Rattle.hv_rules.specs.Carry.{Carry, Pending}
use Rattle.hv_rules.specs.Hart.{Current, instruction_size}
use Rattle.hv_rules.specs.Space.{reached}
use Rattle.hv_rules.specs.Vcpu.{AgreesToFault, runs_on}
use Rattle.hv_space.specs.Space.{SpaceState}
use Rattle.hv_step.specs.declared.step.Step.{Step}
use Rattle.hv_step.specs.declared.step.Step.TheVariants as step
use Rattle.hv_text.specs.declared.limits.TheConstants.{VCPUS}
use Rattle.hv_trap.specs.Trap.{chosen}
use Rattle.hv_vcpu.specs.Vcpu.{VcpuValue}
use Rattle.hv_vcpu_steps.specs.Instructions.{fetches_at, is_run_of}
use Rattle.hv_hart_choice.specs.declared.step.HartStep.{HartStep}
use Rattle.hv_hart_choice.specs.declared.step.HartStep.TheVariants.{Idle, Dispatch, Preempt, Leave, Take, Balance, Fetch, Access, Fault}

-- The step that is chosen.
abbrev pub step_of : HartStep → Step
step_of (Idle s) = step.Idle s
step_of (Dispatch s) = step.Dispatch s
step_of (Preempt s) = step.Preempt s
step_of (Leave s) = step.Leave s
step_of (Take s) = step.Take s
step_of (Balance s) = step.Balance s
step_of (Fetch s) = step.Fetch s
step_of (Access s) = step.Access s
step_of (Fault s) = step.Fault s

-- With a balance a length is handed over for each hart's queue, and with an access the one that is pending.
abbrev pub Hands : (harts : ℕ) → Option Pending → HartStep → Carry → Type 0
Hands harts pending (Balance s) c = length c.lengths ≡ harts
Hands harts pending (Access s) c = c.pending ≡ pending
Hands harts pending s c = Unit {0}

-- A queue allows the dispatch of its head, and an idle step where it is empty.
abbrev pub QueueAllows : List QueueEntry → HartStep → Type 0
QueueAllows queue (Idle s) = head_of queue ≡ None
QueueAllows queue (Dispatch s) = head_of queue ≡ Some s.vcpu
QueueAllows queue (Preempt s) = Unit {0}
QueueAllows queue (Balance s) = Unit {0}
QueueAllows queue s = ⊥

-- A VCPU that is dispatched is one of the board's.
abbrev pub DispatchesKnown : HartStep → Type 0
DispatchesKnown (Dispatch s) = s.vcpu < VCPUS
DispatchesKnown s = Unit {0}

-- A VCPU allows a hart to leave it where it doesn't run there, and the other steps of a hart where it does: an interrupt
-- where one can be taken, an instruction of its guest where none can, and a fault of an instruction at its pc.
abbrev pub VcpuAllows : (hart : ℕ) → VcpuValue → HartStep → Type 0
VcpuAllows hart v (Idle s) = ⊥
VcpuAllows hart v (Dispatch s) = Unit {0}
VcpuAllows hart v (Preempt s) = runs_on (Hart hart) v.state ≡ true
VcpuAllows hart v (Leave s) = runs_on (Hart hart) v.state ≡ false
VcpuAllows hart v (Take s) = (runs_on (Hart hart) v.state ≡ true) × IsSome (chosen v.context)
VcpuAllows hart v (Balance s) = runs_on (Hart hart) v.state ≡ true
VcpuAllows hart v (Fetch s) = IsSome (fetches_at hart s.generation.birth v)
VcpuAllows hart v (Access s) = is_run_of hart s.generation.birth v ≡ true
VcpuAllows hart v (Fault s) =
    (is_run_of hart s.generation.birth v ≡ true) × AgreesToFault v s.access s.address

-- A VCPU of a guest goes on with its instructions on a hart: it runs there, has slice left, and no interrupt can be
-- taken.
pub record GoesOn (hart : ℕ) (current : Current) (v : VcpuValue) : Type 0 where
  pub runs : runs_on (Hart hart) v.state ≡ true
  pub slice : (current.used == current.slice) ≡ false
  pub guest : 0 < current.vcpu
  pub interrupt : chosen v.context ≡ None

-- The row to which the window leads that holds a range.
abbrev pub row_at : List Window → (address size : ℕ) → Option ℕ
row_at windows address size = option_map (λ window. window.target) (reached windows address size)

-- A guest's address space allows a fault where no window holds the access; the other steps don't ask it again.
abbrev pub SpaceAllows : SpaceState → HartStep → Type 0
SpaceAllows space (Fault s) = reached space.windows s.address s.size ≡ None
SpaceAllows space s = Unit {0}

-- A fetch at a pc and an access are made in the row to which the window leads that holds them.
abbrev pub IsLed : List Window → (pc : ℕ) → HartStep → Type 0
IsLed windows pc (Fetch s) = row_at windows pc instruction_size ≡ Some s.row
IsLed windows pc (Access s) = row_at windows s.address s.size ≡ Some s.row
IsLed windows pc s = Unit {0}
