-- Harts at several points of their programs.
use Rattle.std.specs.Prelude.{ℕ, true, false, None, Some, [], ◌∷◌}
use Rattle.hv_kinds.specs.declared.access.AccessKind.TheVariants as access
use Rattle.hv_kinds.specs.declared.access.Direction.TheVariants.{Read}
use Rattle.hv_kinds.specs.declared.generation.Generation.{Generation}
use Rattle.hv_step.specs.declared.step.Step.{Step}
use Rattle.hv_step.specs.declared.step.Step.TheVariants as step
use Rattle.hv_rules.specs.Carry.{Carry, nothing, load}
use Rattle.hv_rules.specs.Hart.{HartState, access_of}

-- A hart that has made nothing yet.
abbrev pub new_hart : HartState
new_hart = record { harts = 2; left = 100; turns = 0; ticked = false; current = None; pending = None; owed = [] }

-- One that has ticked, and one at its end.
abbrev pub ticked_hart : HartState
ticked_hart = record new_hart { ticked = true }

abbrev pub ended_hart : HartState
ended_hart = record new_hart { left = 0; turns = 100 }

-- One that runs VCPU 5 and has used some turns of eight, and one that runs the orphan VCPU.
abbrev pub running : (used : ℕ) → HartState
running used = record new_hart { current = Some (record { vcpu = 5; slice = 8; used = used }) }

abbrev pub balancing : HartState
balancing = record new_hart { current = Some (record { vcpu = 0; slice = 1; used = 0 }) }

-- The guest in slot 1 that was claimed first.
abbrev pub guest : Generation
guest = record { slot = 1; birth = 0 }

-- One whose VCPU loads four bytes from an address.
abbrev pub loading : HartState
loading = record (running 1) { pending = Some (load 268435460 4 true 10, guest) }

-- The access of that load in a region, and its fault.
abbrev pub access_in : (row : ℕ) → (size : ℕ) → Step
access_in row size =
    step.Access (access_of 5 row 268435460 size Read 0 guest)

abbrev pub load_carry : Carry
load_carry = record nothing { pending = Some (load 268435460 4 true 10) }

abbrev pub load_fault : Step
load_fault = step.Fault (record { vcpu = 5; address = 268435460; size = 4; access = access.Read; generation = guest })

-- One that owes a pin.
abbrev pub pin : Step
pin = step.Pin (record { row = 2; vcpu = 6; generation = guest })

abbrev pub owing : HartState
owing = record loading { owed = pin ∷ [] }

-- The steps that the examples ask for.
abbrev pub tick : (slot : ℕ) → Step
tick slot = step.Tick (record { slot = slot })

abbrev pub idle : Step
idle = step.Idle (record {})

abbrev pub dispatch : (vcpu : ℕ) → Step
dispatch vcpu = step.Dispatch (record { vcpu = vcpu })

abbrev pub preempt : (vcpu : ℕ) → Step
preempt vcpu = step.Preempt (record { vcpu = vcpu })

abbrev pub leave : (vcpu : ℕ) → Step
leave vcpu = step.Leave (record { vcpu = vcpu })

abbrev pub fetch : (vcpu row : ℕ) → Step
fetch vcpu row = step.Fetch (record { vcpu = vcpu; row = row; generation = guest })

abbrev pub balance : Step
balance = step.Balance (record {})

abbrev pub balance_carry : Carry
balance_carry = record nothing { lengths = 2 ∷ 1 ∷ [] }
