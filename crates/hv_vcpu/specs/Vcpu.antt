-- A VCPU: its state, whose it is, its registers and its pins.
use Rattle.std.specs.Prelude.{◌≡◌, ⊤, ℕ, ◌<◌, ◌==◌, ◌&&◌, not, Bool, true, false, if◌then◌else◌, List, length, replicate, slice_set, bit_and, Option, Some, None, Result, Ok, Err}
use Rattle.std.specs.List.{list_any}
use Rattle.hv_exec.specs.Context.{advanced}
use Rattle.hv_exec.specs.Meaning.{after_load}
use Rattle.hv_exec.specs.declared.context.After.{After}
use Rattle.hv_exec.specs.declared.context.After.TheVariants.{Wait}
use Rattle.hv_exec.specs.declared.context.Ctx.{Ctx}
use Rattle.hv_kinds.specs.Pins.{pending_bits}
use Rattle.hv_kinds.specs.declared.pins.Pins.{Pins}
use Rattle.hv_kinds.specs.declared.state.State.{State}
use Rattle.hv_kinds.specs.declared.state.State.TheVariants.{Unknown, Ready, Paused}
use Rattle.hv_region.specs.Plans.{IsVcpuPlan}
use Rattle.hv_region.specs.declared.plan.VcpuPlan.{VcpuPlan}
use Rattle.hv_text.specs.declared.limits.TheConstants.{GUEST_REGIONS, GUEST_VCPUS}
use Rattle.hv_trap.specs.Trap.{trapped}
use Rattle.hv_vcpu.specs.Instruction.{carried_out, IsCarriedOut}
use Rattle.hv_vcpu.specs.Table.{led, is_waiting}
use Rattle.hv_vcpu.specs.declared.moves.Move.{Move}
use Rattle.hv_vcpu.specs.declared.moves.Move.TheVariants as move
use Rattle.hv_vcpu.specs.declared.moves.WrongState.{WrongState}

pub record VcpuValue : Type 0 where
  pub state : State
  -- how many guests were claimed before its own
  pub birth : ℕ
  -- its number in its guest
  pub index : ℕ
  pub plan : VcpuPlan
  pub context : Ctx
  -- the pins that each region of its guest drives
  pub pins : List Pins

-- No pin is high.
abbrev pub no_pins : Pins
no_pins = record { ext = false; soft = false; timer = false }

-- Each pin is high where some region drives it high.
abbrev pub joined : List Pins → Pins
joined rows = record { ext = list_any (λ p. p.ext) rows; soft = list_any (λ p. p.soft) rows; timer = list_any (λ p. p.timer) rows }

-- The context that begins at an address, with all registers 0, for the VCPU of an index.
abbrev pub started : ℕ → ℕ → Pins → Ctx
started start index pins = record {
  pc = start;
  x = replicate 32 0;
  mstatus = 0;
  mie = 0;
  mtvec = 0;
  mscratch = 0;
  mepc = 0;
  mcause = 0;
  mtval = 0;
  hartid = index;
  pins = pins;
}

-- A VCPU that isn't there.
abbrev pub unknown : VcpuValue
unknown = record {
  state = Unknown;
  birth = 0;
  index = 0;
  plan = record { start = 0; priority = 0; slice = 1 };
  context = started 0 0 no_pins;
  pins = replicate GUEST_REGIONS no_pins;
}

-- What holds of each VCPU: its index is one of a guest's, its plan keeps its rules, each region of its guest has a row of
-- pins, and its context has the pins that all of them drive, joined.
pub record IsVcpu (v : VcpuValue) : Type 0 where
  pub index : v.index < GUEST_VCPUS
  pub plan : IsVcpuPlan v.plan
  pub rows : length v.pins ≡ GUEST_REGIONS
  pub joined : v.context.pins ≡ joined v.pins

-- What only a VCPU that is there has.
abbrev pub unless_unknown : {A : Type 0} → State → A → Option A
unless_unknown Unknown a = None
unless_unknown _ a = Some a

abbrev pub birth_of : VcpuValue → Option ℕ
birth_of v = unless_unknown v.state v.birth

abbrev pub plan_of : VcpuValue → Option VcpuPlan
plan_of v = unless_unknown v.state v.plan

-- A VCPU is added under a number that its guest can have, with a plan that keeps its rules.
abbrev pub IsMove : Move → Type 0
IsMove (move.Add birth index plan) = (index < GUEST_VCPUS) × IsVcpuPlan plan
IsMove _ = ⊤

-- The VCPU once a move has led it to a state: one that is added begins by its plan without pins, one that is reset
-- begins again and keeps its pins, one that is dropped keeps nothing, and else the state alone changes.
abbrev pub moved : Move → State → VcpuValue → VcpuValue
moved (move.Add birth index plan) s v = record {
  state = s;
  birth = birth;
  index = index;
  plan = plan;
  context = started plan.start index no_pins;
  pins = replicate GUEST_REGIONS no_pins;
}
moved move.Reset s v = record v { state = s; context = started v.plan.start v.index v.context.pins }
moved move.Drop s v = unknown
moved _ s v = record v { state = s }

-- A move that is refused changes nothing.
abbrev pub moved_if : Move → Result State WrongState → VcpuValue → VcpuValue
moved_if to (Ok s) v = moved to s v
moved_if to (Err wrong) v = v

-- The VCPU after a move.
abbrev pub stepped : Move → VcpuValue → VcpuValue
stepped to v = moved_if to (led to v.state) v

-- The answer to a move.
abbrev pub answered : Result State WrongState → Result (Unit {0}) WrongState
answered (Ok s) = Ok tt
answered (Err wrong) = Err wrong

-- The state after an instruction: one that waits pauses the VCPU.
abbrev pub state_after : State → After → State
state_after s Wait = Paused true
state_after s _ = s

-- The VCPU after an instruction.
abbrev pub after_fetch : VcpuValue → ℕ → VcpuValue
after_fetch v word = record v {
  state = state_after v.state (carried_out v.context word).answer;
  context = (carried_out v.context word).context;
}

-- An access leaves the VCPU, a trap is entered, and no instruction is left to others.
pub record IsFetched (old new : VcpuValue) (after : After) : Type 0 where
  pub state : new.state ≡ state_after old.state after
  pub context : IsCarriedOut old.context new.context after

-- The VCPU once a trap is entered.
abbrev pub after_trap : VcpuValue → ℕ → ℕ → VcpuValue
after_trap v cause value = record v { context = trapped v.context cause value }

-- The VCPU once a load has its value, of which the lowest bytes count.
abbrev pub loaded : VcpuValue → ℕ → Bool → ℕ → ℕ → VcpuValue
loaded v size is_signed rd value = record v { context = after_load v.context size is_signed rd value }

-- The VCPU once a store is made.
abbrev pub stored : VcpuValue → VcpuValue
stored v = record v { context = advanced v.context }

-- The VCPU with the pins that a region drives.
abbrev pub with_pins : ℕ → Pins → VcpuValue → VcpuValue
with_pins row pins v = record v {
  context = record v.context { pins = joined (slice_set v.pins row pins) };
  pins = slice_set v.pins row pins;
}

-- Whether an interrupt that is enabled is pending.
abbrev pub has_interrupt : Ctx → Bool
has_interrupt ctx = not (bit_and (pending_bits ctx.pins) ctx.mie == 0)

-- Whether it waits for an interrupt that is there.
abbrev pub wakes : VcpuValue → Bool
wakes v = is_waiting v.state && has_interrupt v.context

-- Such a VCPU becomes ready.
abbrev pub woken : VcpuValue → VcpuValue
woken v = if wakes v then record v { state = Ready } else v
