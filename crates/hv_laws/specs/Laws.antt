-- The laws of every run: which VCPUs run, and which stand in queues.
use Rattle.std.specs.Prelude.{◌≡◌, ℕ, zero, suc, ◌+◌, ◌<◌, ◌≤◌, ◌==◌, not, Bool, true, false, if◌then◌else◌, Option, None, Some, Ok, option_map}
use Rattle.std.specs.List.{All}
use Rattle.hv_answer.specs.declared.reply.Reply.TheVariants as reply
use Rattle.hv_event.specs.declared.event.ActorId.TheVariants.{Hart}
use Rattle.hv_kinds.specs.declared.state.State.{State}
use Rattle.hv_kinds.specs.declared.state.State.TheVariants.{Ready, Running}
use Rattle.hv_queue.specs.Queue.{weigh, of_vcpu, count_in}
use Rattle.hv_queue.specs.declared.entry.QueueEntry.{QueueEntry}
use Rattle.hv_rules.specs.Hart.{HartState, IsWithinItsSlice}
use Rattle.hv_step.specs.declared.step.Step.{Step}
use Rattle.hv_step.specs.declared.step.Step.TheVariants as step
use Rattle.hv_laws.specs.Board.{Board, Made, IsStep}
use Rattle.hv_laws.specs.Run.{IsReached}

-- The VCPU that a hart runs.
abbrev pub current_of : HartState → Option ℕ
current_of hart = option_map (λ current. current.vcpu) hart.current

-- A VCPU that runs on a hart is the one that the hart runs.
abbrev pub RunningIsCurrent : Type 0
RunningIsCurrent =
    (count : ℕ) (board : Board) → IsReached count board → (v h : ℕ)
    → (board.vcpus v).state ≡ Running h → current_of (board.harts h) ≡ Some v

-- A VCPU runs on one hart, and a hart runs one VCPU.
abbrev pub RunsApart : Type 0
RunsApart =
    (count : ℕ) (board : Board) → IsReached count board → (v w g h : ℕ)
    → (board.vcpus v).state ≡ Running g → (board.vcpus w).state ≡ Running h → (v == w) ≡ (g == h)

-- The VCPU that a step runs, or ends the run of, if it does.
abbrev pub vcpu_run : Step → Option ℕ
vcpu_run (step.Preempt s) = Some s.vcpu
vcpu_run (step.Take s) = Some s.vcpu
vcpu_run (step.Fetch s) = Some s.vcpu
vcpu_run (step.Access s) = Some s.vcpu
vcpu_run (step.Fault s) = Some s.vcpu
vcpu_run (step.Balance s) = Some 0
vcpu_run _ = None

-- Such a step is made by the hart on which the VCPU runs, and which runs it.
abbrev pub StepsAreOfTheCurrent : Type 0
StepsAreOfTheCurrent =
    (count : ℕ) (board next : Board) (made : Made) (v : ℕ)
    → IsReached count board → IsStep count board next made → vcpu_run made.step ≡ Some v
    → (h : ℕ) × (made.by ≡ Hart h) × ((board.vcpus v).state ≡ Running h) × (current_of (board.harts h) ≡ Some v)

-- A number for each of the first ones, added up.
abbrev pub sum_below : (count : ℕ) → (ℕ → ℕ) → ℕ
sum_below zero f = 0
sum_below (suc n) f = f n + sum_below n f

-- What the entries of the queues of all harts weigh together.
abbrev pub standing_of : (count : ℕ) → Board → (QueueEntry → ℕ) → ℕ
standing_of count board weight = sum_below count (λ g. weigh weight (board.queues g))

abbrev pub is_ready : State → Bool
is_ready Ready = true
is_ready _ = false

abbrev pub one_if : Bool → ℕ
one_if b = if b then 1 else 0

-- An entry of a VCPU with another priority than this one weighs 1, and any other nothing.
abbrev pub foreign : (vcpu priority : ℕ) → QueueEntry → ℕ
foreign vcpu priority entry = if vcpu == entry.vcpu then one_if (not (entry.priority == priority)) else 0

-- A VCPU stands in the queues of all harts together once where it is ready, and else not at all; with no priority but
-- its own; and in no other queue.
pub record StandsWhereReady (count : ℕ) (board : Board) (v : ℕ) : Type 0 where
  pub once : standing_of count board (of_vcpu v) ≡ one_if (is_ready (board.vcpus v).state)
  pub own_priority : standing_of count board (foreign v (board.vcpus v).plan.priority) ≡ 0
  pub no_other : (g : ℕ) → count ≤ g → count_in v (board.queues g) ≡ 0

abbrev pub ReadyIsQueued : Type 0
ReadyIsQueued =
    (count : ℕ) (board : Board) → 0 < count → IsReached count board → (v : ℕ) → StandsWhereReady count board v

-- In other words: each entry of a queue is of a VCPU that is ready, with its priority.
pub record IsOfReady (board : Board) (entry : QueueEntry) : Type 0 where
  pub ready : (board.vcpus entry.vcpu).state ≡ Ready
  pub priority : entry.priority ≡ (board.vcpus entry.vcpu).plan.priority

abbrev pub EntriesAreOfReady : Type 0
EntriesAreOfReady =
    (count : ℕ) (board : Board) → 0 < count → IsReached count board → (g : ℕ)
    → All (IsOfReady board) (board.queues g)

-- And a VCPU that is ready stands in the queue of one hart, once, and in no other queue.
pub record IsInOne (count : ℕ) (board : Board) (v : ℕ) : Type 0 where
  pub hart : ℕ
  pub there : hart < count
  pub once : count_in v (board.queues hart) ≡ 1
  pub no_other : (g : ℕ) → (g == hart) ≡ false → count_in v (board.queues g) ≡ 0

abbrev pub ReadyIsInOneQueue : Type 0
ReadyIsInOneQueue =
    (count : ℕ) (board : Board) → 0 < count → IsReached count board → (v : ℕ)
    → (board.vcpus v).state ≡ Ready → IsInOne count board v

-- What a hart dispatches is ready, so that it gets its slice and no refusal.
abbrev pub DispatchIsNotRefused : Type 0
DispatchIsNotRefused =
    (count : ℕ) (board next : Board) (made : Made) (vcpu : ℕ)
    → 0 < count → IsReached count board → IsStep count board next made
    → made.step ≡ step.Dispatch (record { vcpu = vcpu })
    → made.reply ≡ reply.Dispatch (Ok (board.vcpus vcpu).plan.slice)

-- A hart has a pending access only with a VCPU, and that used no more turns than its slice has.
abbrev pub HartsAreWithinTheirSlices : Type 0
HartsAreWithinTheirSlices =
    (count : ℕ) (board : Board) → IsReached count board → (h : ℕ) → IsWithinItsSlice (board.harts h)
