-- How a hart's program is kept.
use Rattle.std.specs.Prelude.{ℕ, ◌<◌, false, Option, None, Some, [], IfSome}
use Rattle.std.specs.List.{All}
use Rattle.std.specs.Option.{option_map}
use Rattle.hv_kinds.specs.declared.access.AccessKind.{AccessKind}
use Rattle.hv_kinds.specs.declared.access.AccessKind.TheVariants as access
use Rattle.hv_kinds.specs.declared.generation.Generation.{Generation}
use Rattle.hv_step.specs.declared.step.Step.{Step}
use Rattle.hv_step.specs.declared.step.Step.TheVariants as step
use Rattle.hv_text.specs.declared.limits.TheConstants.{GUEST_REGIONS, SLOTS, VCPUS}
use Rattle.hv_handed.specs.declared.pending.Pending.{Pending}
use Rattle.hv_handed.specs.Given.{pended}
use Rattle.hv_rules.specs.Carry as carried
use Rattle.hv_rules.specs.Carry.{Carry, nothing}
use Rattle.hv_rules.specs.Hart as hart
use Rattle.hv_rules.specs.Hart.{Current, HartState, IsWithinItsSlice}
use Rattle.hv_rules.specs.Vcpu.{IsPending}
use Rattle.hv_programs.specs.declared.row.Running.{Running}
use Rattle.hv_programs.specs.declared.row.Row.{Row}
use Rattle.hv_programs.specs.declared.row.Row.TheVariants as row
use Rattle.hv_programs.specs.Owed.{IsOwed, IsParent, step_of}

-- The VCPU that a hart runs.
abbrev pub current_of : Running → Current
current_of running = record { vcpu = running.vcpu; slice = running.slice; used = running.used }

-- The access that waits, with the guest's generation.
abbrev pub waiting_of : (Pending × Generation) → carried.Pending × Generation
waiting_of waiting = (pended waiting.0, waiting.1)

-- What a hart's own state says of its next step.
abbrev pub row_seen : Row → hart.Row
row_seen (row.Owes next) = hart.owes (step_of next)
row_seen (row.Waits vcpu pending generation) = hart.waits vcpu (pended pending) generation
row_seen row.Ends = hart.ends
row_seen (row.Ticks slot) = hart.ticks slot
row_seen row.Free = hart.free
row_seen (row.Runs running) = hart.runs (current_of running)

-- A hart at the start, of so many, with so many turns to make.
abbrev pub at_start : (harts turns : ℕ) → HartState
at_start harts turns = record {
  harts = harts;
  left = turns;
  turns = 0;
  ticked = false;
  current = None;
  pending = None;
  owed = [];
}

-- A hart's state, and room for further steps that it owes.
pub record HartKept : Type 0 where
  pub hart : HartState
  pub room : ℕ

-- What is handed over to a hart: the access that an instruction leaves pending, row and birth of the clock, and the
-- interrupt parent.
abbrev pub handed_alone : Option carried.Pending → (clock parent : Option (ℕ × ℕ)) → Carry
handed_alone pending clock parent = record nothing { pending = pending; clock = clock; parent = parent }

abbrev pub handed : Option Pending → (clock parent : Option (ℕ × ℕ)) → Carry
handed pending clock parent = handed_alone (option_map pended pending) clock parent

-- The VCPU that a hart runs has slice left, if it runs one.
abbrev pub HasSlice : Option Current → Type 0
HasSlice None = Unit {0}
HasSlice (Some current) = current.used < current.slice

-- A fault of an instruction uses the slice, and one of a load or store doesn't.
abbrev pub HasSliceFor : Option Current → AccessKind → Type 0
HasSliceFor current access.Execute = HasSlice current
HasSliceFor current _ = Unit {0}

-- What a hart has that makes a step: a turn that the step ends, slice that it uses, and a slot whose guest's steps it
-- owes.
abbrev pub MayMake : HartState → Step → Type 0
MayMake hart (step.Sample s) = s.generation.slot < SLOTS
MayMake hart (step.Tick s) = s.slot < SLOTS
MayMake hart (step.Idle s) = 0 < hart.left
MayMake hart (step.Dispatch s) = 0 < hart.left
MayMake hart (step.Preempt s) = 0 < hart.left
MayMake hart (step.Leave s) = 0 < hart.left
MayMake hart (step.Take s) = (0 < hart.left) × HasSlice hart.current
MayMake hart (step.Balance s) = (0 < hart.left) × HasSlice hart.current
MayMake hart (step.Fetch s) = (0 < hart.left) × HasSlice hart.current
MayMake hart (step.Access s) = (0 < hart.left) × (s.generation.slot < SLOTS)
MayMake hart (step.Fault s) = (0 < hart.left) × HasSliceFor hart.current s.access
MayMake hart _ = Unit {0}

-- An access that waits is one that an instruction of a guest left, and ends a turn.
pub record IsWaiting (left : ℕ) (waiting : carried.Pending × Generation) : Type 0 where
  pub turn : 0 < left
  pub slot : waiting.1.slot < SLOTS
  pub access : IsPending waiting.0

-- What a hart keeps: it is within its slice, it runs a VCPU of the board, and what it waits for and owes can be made.
pub record IsHart (hart : HartState) : Type 0 where
  pub within : IsWithinItsSlice hart
  pub vcpu : IfSome hart.current (λ current. current.vcpu < VCPUS)
  pub pending : IfSome hart.pending (IsWaiting hart.left)
  pub owed : All IsOwed hart.owed

-- What a step brings to a hart is of the board: a VCPU that is dispatched, the clock that ticks and the region that is
-- accessed, each with its parent, and the access that an instruction leaves pending.
abbrev pub Brings : Step → Carry → Type 0
Brings (step.Dispatch s) c = s.vcpu < VCPUS
Brings (step.Tick s) c = IfSome c.clock (λ clock. (clock.0 < GUEST_REGIONS) × IsParent clock.0 c.parent)
Brings (step.Access s) c = (s.row < GUEST_REGIONS) × IsParent s.row c.parent
Brings (step.Fetch s) c = IfSome c.pending IsPending
Brings _ c = Unit {0}
