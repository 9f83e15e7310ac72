-- A hart's program: what it keeps, which step comes next, and what an event leaves in it.
use Rattle.std.specs.Prelude.{◌≡◌, ℕ, zero, suc, ◌+◌, ◌-◌, ◌/◌, ◌%◌, ◌≤◌, ◌==◌, ◌&&◌, not, Bool, true, false, if◌then◌else◌, Option, None, Some, Ok, List, [], ◌∷◌, ◌++◌, length}
use Rattle.hv_answer.specs.declared.reply.Outcome.{Outcome}
use Rattle.hv_answer.specs.declared.reply.Outcome.TheVariants as outcome
use Rattle.hv_answer.specs.declared.reply.Reply.{Reply}
use Rattle.hv_answer.specs.declared.reply.Reply.TheVariants as reply
use Rattle.hv_kinds.specs.declared.access.AccessKind.{AccessKind}
use Rattle.hv_kinds.specs.declared.access.AccessKind.TheVariants as access
use Rattle.hv_kinds.specs.declared.access.Direction.{Direction}
use Rattle.hv_kinds.specs.declared.access.Direction.TheVariants.{Read, Write}
use Rattle.hv_kinds.specs.declared.changes.SignalChanges.{SignalChanges}
use Rattle.hv_kinds.specs.declared.generation.Generation.{Generation}
use Rattle.hv_step.specs.declared.step.Step.{Step}
use Rattle.hv_step.specs.declared.step.Step.TheVariants as step
use Rattle.hv_step.specs.declared.step.Access.{Access}
use Rattle.hv_step.specs.declared.step.Fault.{Fault}
use Rattle.hv_text.specs.declared.limits.TheConstants.{SLOTS, GUEST_VCPUS}
use Rattle.hv_rules.specs.Carry.{Carry, Pending, load, store}
use Rattle.hv_rules.specs.Handed.{handed_over}
use Rattle.hv_rules.specs.Owed.{owed_for}

-- The VCPU that a hart runs, how many turns it may use, and how many it used.
pub record Current : Type 0 where
  pub vcpu : ℕ
  pub slice : ℕ
  pub used : ℕ

pub record HartState : Type 0 where
  -- how many harts there are
  pub harts : ℕ
  -- how many turns it has left, and how many it made
  pub left : ℕ
  pub turns : ℕ
  -- whether it ticked in this turn
  pub ticked : Bool
  pub current : Option Current
  -- the access that its VCPU's last instruction waits for, with the guest's generation
  pub pending : Option (Pending × Generation)
  -- the interrupt steps that it owes, the next one first
  pub owed : List Step

-- What a hart's own state says of its next step, by the first of these that fits: a step that it owes, the access that
-- is pending, nothing at its end, the tick of this turn, which hart 0 makes, a VCPU to be had, or one that it runs.
pub data Row : Type 0 where
  owes : Step → Row
  waits : (vcpu : ℕ) → Pending → Generation → Row
  ends : Row
  ticks : (slot : ℕ) → Row
  free : Row
  runs : Current → Row

-- One that runs a VCPU whose access is pending waits for it; an access is pending of no other.
abbrev pub waits_for : Option Current → Pending → Generation → Row
waits_for None pending generation = free
waits_for (Some current) pending generation = waits current.vcpu pending generation

abbrev pub with_current : Option Current → Row
with_current None = free
with_current (Some current) = runs current

-- Where nothing is owed and no access is pending.
abbrev pub turn_row : (number : ℕ) → HartState → (left : ℕ) → Row
turn_row number hart zero = ends
turn_row number hart (suc left) =
    if (number == 0) && not hart.ticked then ticks (hart.turns % SLOTS) else with_current hart.current

abbrev pub pending_row : (number : ℕ) → HartState → Option (Pending × Generation) → Row
pending_row number hart None = turn_row number hart hart.left
pending_row number hart (Some pending) = waits_for hart.current pending.0 pending.1

abbrev pub owed_row : (number : ℕ) → HartState → (owed : List Step) → Row
owed_row number hart [] = pending_row number hart hart.pending
owed_row number hart (next ∷ later) = owes next

abbrev pub row_of : (number : ℕ) → HartState → Row
row_of number hart = owed_row number hart hart.owed

-- An access of a VCPU in a row's window.
abbrev pub access_of : (vcpu row address size : ℕ) → Direction → (value : ℕ) → Generation → Access
access_of vcpu row address size direction value generation = record {
  vcpu = vcpu;
  row = row;
  address = address;
  size = size;
  direction = direction;
  value = value;
  generation = generation;
}

-- The step is the access that is pending; of a load no value is stored, and it says how the value is taken.
abbrev pub IsAccess : (vcpu : ℕ) → Pending → Generation → Access → Carry → Type 0
IsAccess vcpu (load address size is_signed register) generation s c =
    (s ≡ access_of vcpu s.row address size Read 0 generation)
    × (c.pending ≡ Some (load address size is_signed register))
IsAccess vcpu (store address size value) generation s c =
    (s ≡ access_of vcpu s.row address size Write value generation)
    × (c.pending ≡ Some (store address size value))

-- The step is the fault of the access that is pending.
abbrev pub IsPendingFault : (vcpu : ℕ) → Pending → Generation → Fault → Type 0
IsPendingFault vcpu (load address size is_signed register) generation s =
    s ≡ record { vcpu = vcpu; address = address; size = size; access = access.Read; generation = generation }
IsPendingFault vcpu (store address size value) generation s =
    s ≡ record { vcpu = vcpu; address = address; size = size; access = access.Write; generation = generation }

-- While an access is pending: the VCPU is left where it doesn't run here any more; else the access is made where a
-- window holds it, and else it is a fault.
abbrev pub FitsPending : (vcpu : ℕ) → Pending → Generation → Step → Carry → Type 0
FitsPending vcpu pending generation (step.Leave s) c = s.vcpu ≡ vcpu
FitsPending vcpu pending generation (step.Access s) c = IsAccess vcpu pending generation s c
FitsPending vcpu pending generation (step.Fault s) c = IsPendingFault vcpu pending generation s
FitsPending vcpu pending generation _ c = ⊥

-- Without a VCPU the head of the queue is dispatched, and an empty queue makes the turn idle.
abbrev pub FitsFree : Step → Type 0
FitsFree (step.Dispatch s) = Unit {0}
FitsFree (step.Idle s) = Unit {0}
FitsFree _ = ⊥

-- The bytes of an instruction.
abbrev pub instruction_size : ℕ
instruction_size = 4

-- The slot of the guest that a VCPU is of; the orphan VCPU is of none.
abbrev pub slot_of : (vcpu : ℕ) → ℕ
slot_of vcpu = (vcpu - 1) / GUEST_VCPUS

-- With slice left the orphan VCPU balances the queues of all harts; another takes an interrupt, or fetches, or faults
-- where no window holds its pc.
abbrev pub FitsRun : (harts vcpu : ℕ) → Step → Carry → Type 0
FitsRun harts zero (step.Balance s) c = length c.lengths ≡ harts
FitsRun harts zero _ c = ⊥
FitsRun harts (suc v) (step.Take s) c = s.vcpu ≡ suc v
FitsRun harts (suc v) (step.Fetch s) c = (s.vcpu ≡ suc v) × (s.generation.slot ≡ slot_of (suc v))
FitsRun harts (suc v) (step.Fault s) c =
    (s.vcpu ≡ suc v)
    × (s.generation.slot ≡ slot_of (suc v))
    × (s.size ≡ instruction_size)
    × (s.access ≡ access.Execute)
FitsRun harts (suc v) _ c = ⊥

-- A VCPU that doesn't run here any more is left; one that used its slice is preempted.
abbrev pub FitsCurrent : (harts : ℕ) → Current → Step → Carry → Type 0
FitsCurrent harts current (step.Leave s) c = s.vcpu ≡ current.vcpu
FitsCurrent harts current (step.Preempt s) c = (s.vcpu ≡ current.vcpu) × ((current.used == current.slice) ≡ true)
FitsCurrent harts current other c = ((current.used == current.slice) ≡ false) × FitsRun harts current.vcpu other c

-- The next step of a hart, by its row.
abbrev pub Fits : (harts : ℕ) → Row → Step → Carry → Type 0
Fits harts (owes next) s c = s ≡ next
Fits harts (waits vcpu pending generation) s c = FitsPending vcpu pending generation s c
Fits harts ends s c = ⊥
Fits harts (ticks slot) s c = s ≡ step.Tick (record { slot = slot })
Fits harts free s c = FitsFree s
Fits harts (runs current) s c = FitsCurrent harts current s c

-- A hart agrees to the step that is its next, which hands over what its row names and nothing else.
abbrev pub HartAgrees : (number : ℕ) → HartState → Step → Carry → Type 0
HartAgrees number hart s c = Fits hart.harts (row_of number hart) s c × (c ≡ handed_over s c)

-- The hart with a turn made.
abbrev pub turned : HartState → HartState
turned hart = record hart { left = hart.left - 1; turns = hart.turns + 1; ticked = false }

-- The hart with one more turn of its VCPU's slice used.
abbrev pub used_up : Option Current → Option Current
used_up None = None
used_up (Some current) = Some (record current { used = current.used + 1 })

abbrev pub with_used : HartState → HartState
with_used hart = record hart { current = used_up hart.current }

-- The hart without its VCPU, and without a pending access.
abbrev pub without_vcpu : HartState → HartState
without_vcpu hart = record hart { current = None; pending = None }

abbrev pub without_pending : HartState → HartState
without_pending hart = record hart { pending = None }

-- The hart with further steps owed.
abbrev pub with_owed : HartState → List Step → HartState
with_owed hart steps = record hart { owed = hart.owed ++ steps }

-- The hart whose first owed step is made.
abbrev pub without_first : List Step → List Step
without_first [] = []
without_first (s ∷ owed) = owed

abbrev pub paid : HartState → HartState
paid hart = record hart { owed = without_first hart.owed }

-- The access that an instruction leaves pending, if it leaves one.
abbrev pub pended : Option Pending → Generation → Option (Pending × Generation)
pended None generation = None
pended (Some pending) generation = Some (pending, generation)

-- A hart once an instruction is fetched: an access is pending in this turn, a wait ends its VCPU, and all but an access
-- end the turn.
abbrev pub fetched : HartState → Generation → Outcome → Carry → HartState
fetched hart generation outcome.Access c = record (with_used hart) { pending = pended c.pending generation }
fetched hart generation outcome.Wait c = turned (without_vcpu hart)
fetched hart generation _ c = turned (with_used hart)

-- A fault of an instruction uses the slice as its fetch would have; a fault of a load or store ends the access.
abbrev pub faulted : HartState → AccessKind → HartState
faulted hart access.Execute = turned (with_used hart)
faulted hart _ = turned (without_pending hart)

-- The clock's region and its generation in the slot that is ticked.
abbrev pub ticked_signals : (slot : ℕ) → (clock parent : Option (ℕ × ℕ)) → SignalChanges → List Step
ticked_signals slot None parent changes = []
ticked_signals slot (Some clock) parent changes =
    owed_for (record { slot = slot; birth = clock.1 }) clock.0 parent changes

-- What an event leaves of a hart.
abbrev pub hart_after : HartState → Step → Reply → Carry → HartState
hart_after hart (step.Sample s) (reply.Sample None) c = paid hart
hart_after hart (step.Sample s) (reply.Sample (Some sampled)) c =
    with_owed (paid hart) (owed_for s.generation s.parent None sampled.changes)
hart_after hart (step.Pin s) r c = paid hart
hart_after hart (step.Tick s) (reply.Tick None) c = record hart { ticked = true }
hart_after hart (step.Tick s) (reply.Tick (Some changes)) c =
    with_owed (record hart { ticked = true }) (ticked_signals s.slot c.clock c.parent changes)
hart_after hart (step.Idle s) r c = turned hart
hart_after hart (step.Dispatch s) (reply.Dispatch (Ok slice)) c =
    turned (record hart { current = Some (record { vcpu = s.vcpu; slice = slice; used = 0 }) })
hart_after hart (step.Dispatch s) r c = turned hart
hart_after hart (step.Preempt s) r c = turned (without_vcpu hart)
hart_after hart (step.Leave s) r c = turned (without_vcpu hart)
hart_after hart (step.Take s) r c = turned (with_used hart)
hart_after hart (step.Balance s) r c = turned (with_used hart)
hart_after hart (step.Fetch s) (reply.Fetch None) c = turned (with_used hart)
hart_after hart (step.Fetch s) (reply.Fetch (Some done)) c = fetched hart s.generation done.outcome c
hart_after hart (step.Access s) (reply.Access None) c = turned (without_pending hart)
hart_after hart (step.Access s) (reply.Access (Some accessed)) c =
    with_owed (turned (without_pending hart)) (owed_for s.generation s.row c.parent accessed.changes)
hart_after hart (step.Fault s) r c = faulted hart s.access
hart_after hart _ r c = hart

-- A hart has a pending access only with a VCPU, and that used no more turns than its slice has.
pub record IsWithinItsSlice (hart : HartState) : Type 0 where
  pub pending : hart.current ≡ None → hart.pending ≡ None
  pub used : (current : Current) → hart.current ≡ Some current → current.used ≤ current.slice
