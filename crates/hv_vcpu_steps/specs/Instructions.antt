-- The instructions that a VCPU carries out for a hart, and the accesses that they leave pending.
use Rattle.std.specs.Prelude.{ℕ, ◌==◌, ◌&&◌, Bool, is_none, if◌then◌else◌, Option, None, Some}
use Rattle.hv_event.specs.declared.event.ActorId.TheVariants.{Hart}
use Rattle.hv_handed.specs.Given.{pended}
use Rattle.hv_handed.specs.declared.pending.Pending.{Pending}
use Rattle.hv_rules.specs.Vcpu as rules
use Rattle.hv_rules.specs.Vcpu.{runs_on}
use Rattle.hv_trap.specs.Trap.{chosen}
use Rattle.hv_vcpu.specs.Vcpu.{VcpuValue}

-- Whether a VCPU of the guest with a birth runs on a hart.
abbrev pub is_run_of : (hart birth : ℕ) → VcpuValue → Bool
is_run_of hart birth v = runs_on (Hart hart) v.state && (birth == v.birth)

-- The address from which it fetches there, unless it takes an interrupt.
abbrev pub fetches_at : (hart birth : ℕ) → VcpuValue → Option ℕ
fetches_at hart birth v = if is_run_of hart birth v && is_none (chosen v.context) then Some v.context.pc else None

-- A pending access is one that an instruction can leave.
abbrev pub IsPending : Pending → Type 0
IsPending pending = rules.IsPending (pended pending)
