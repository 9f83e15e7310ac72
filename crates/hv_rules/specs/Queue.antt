-- The component of a hart's queue: to which events it agrees, and what an event leaves in it.
use Rattle.std.specs.Prelude.{◌≡◌, ℕ, ◌==◌, get_or, length, Bool, true, false, if◌then◌else◌, Option, None, Some, Ok, List}
use Rattle.hv_answer.specs.declared.reply.Reply.{Reply}
use Rattle.hv_answer.specs.declared.reply.Reply.TheVariants as reply
use Rattle.hv_queue.specs.Queue.{appended, without, head_of, last_of, front_of}
use Rattle.hv_queue.specs.declared.entry.QueueEntry.{QueueEntry}
use Rattle.hv_step.specs.declared.step.Step.{Step}
use Rattle.hv_step.specs.declared.step.Step.TheVariants as step
use Rattle.hv_rules.specs.Balance.{longest, shortest, is_uneven, told_move}
use Rattle.hv_rules.specs.Carry.{Carry}

-- The longest queue says which entry is moved; where the queues are even, none is.
abbrev pub SaysMoved : (is_longest : Bool) → (uneven : Bool) → List QueueEntry → Option QueueEntry → Type 0
SaysMoved is_longest false queue moved = moved ≡ None
SaysMoved true true queue moved = moved ≡ last_of queue
SaysMoved false true queue moved = Unit {0}

-- Queue `number` agrees to the dispatch of its head, to an idle step where it is empty, and to a balance where its
-- length stands at its place among those handed over; of what moves it the VCPU decides.
abbrev pub QueueAgrees : (number : ℕ) → List QueueEntry → Step → Reply → Carry → Type 0
QueueAgrees number queue (step.Kick s) r c = Unit {0}
QueueAgrees number queue (step.Resume s) r c = Unit {0}
QueueAgrees number queue (step.Pause s) r c = Unit {0}
QueueAgrees number queue (step.Halt s) r c = Unit {0}
QueueAgrees number queue (step.Reset s) r c = Unit {0}
QueueAgrees number queue (step.Vdrop s) r c = Unit {0}
QueueAgrees number queue (step.Preempt s) r c = Unit {0}
QueueAgrees number queue (step.Pin s) r c = Unit {0}
QueueAgrees number queue (step.Dispatch s) r c = head_of queue ≡ Some s.vcpu
QueueAgrees number queue (step.Idle s) r c = (head_of queue ≡ None) × (r ≡ reply.Idle)
QueueAgrees number queue (step.Balance s) r c =
    (get_or c.lengths number 0 ≡ length queue)
    × SaysMoved (number == longest c.lengths) (is_uneven c.lengths) queue c.moved
    × (r ≡ reply.Balance (told_move c.lengths c.moved))
QueueAgrees number queue _ r c = ⊥

-- A VCPU that becomes ready goes to the end, with the priority that is handed over.
abbrev pub arrived : (vcpu : ℕ) → (priority : Option ℕ) → List QueueEntry → List QueueEntry
arrived vcpu None queue = queue
arrived vcpu (Some priority) queue = appended (record { vcpu = vcpu; priority = priority }) queue

-- The moved entry leaves the longest queue and goes to the end of the shortest.
abbrev pub balanced : (is_longest is_shortest : Bool) → Option QueueEntry → List QueueEntry → List QueueEntry
balanced is_longest is_shortest None queue = queue
balanced true is_shortest (Some entry) queue = front_of queue
balanced false true (Some entry) queue = appended entry queue
balanced false false (Some entry) queue = queue

-- A refused step leaves the queue, and so does a pin that wakes no VCPU.
abbrev pub queue_after : (number : ℕ) → List QueueEntry → Step → Reply → Carry → List QueueEntry
queue_after number queue (step.Kick s) (reply.Kick (Ok done)) c = arrived s.vcpu c.priority queue
queue_after number queue (step.Resume s) (reply.Resume (Ok done)) c = arrived s.vcpu c.priority queue
queue_after number queue (step.Pause s) (reply.Pause (Ok done)) c = without s.vcpu queue
queue_after number queue (step.Halt s) (reply.Halt (Ok done)) c = without s.vcpu queue
queue_after number queue (step.Reset s) (reply.Reset (Ok done)) c = without s.vcpu queue
queue_after number queue (step.Vdrop s) (reply.Vdrop (Ok done)) c = without s.vcpu queue
queue_after number queue (step.Preempt s) r c = arrived s.vcpu c.priority queue
queue_after number queue (step.Pin s) (reply.Pin (Some pinned)) c =
    if pinned.woke then arrived s.vcpu c.priority queue else queue
queue_after number queue (step.Dispatch s) (reply.Dispatch (Ok slice)) c = without s.vcpu queue
queue_after number queue (step.Balance s) r c =
    balanced (number == longest c.lengths) (number == shortest c.lengths) c.moved queue
queue_after number queue _ r c = queue
