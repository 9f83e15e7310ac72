-- Queues among which one balance moves an entry, or none.
use Rattle.std.specs.Prelude.{◌≡◌, ℕ, Option, List, []}
use Rattle.hv_answer.specs.declared.reply.Reply.TheVariants as reply
use Rattle.hv_event.specs.declared.event.ActorId.{ActorId}
use Rattle.hv_event.specs.declared.event.CellId.TheVariants as component
use Rattle.hv_parts.specs.Takes.{PartTakes}
use Rattle.hv_parts.specs.Value.{PartValue, Queue}
use Rattle.hv_queue.specs.declared.entry.QueueEntry.{QueueEntry}
use Rattle.hv_rules.specs.Balance.{told_move}
use Rattle.hv_rules.specs.Carry.{Carry}
use Rattle.hv_step.specs.declared.step.Balance.{Balance}
use Rattle.hv_step.specs.declared.step.Step.TheVariants as step

-- The entries of a queue; another component has none.
abbrev pub queue_in : PartValue → List QueueEntry
queue_in (Queue queue) = queue
queue_in value = []

-- The queue of a hart takes each balance of queues of these lengths by which this entry moves, or none.
abbrev pub Balances : (lengths : List ℕ) → (moved : Option QueueEntry) → (hart : ℕ) → (old new : PartValue) → Type 0
Balances lengths moved hart old new =
    (by : ActorId) → (s : Balance) → (c : Carry) → c.lengths ≡ lengths → c.moved ≡ moved
    → PartTakes by (component.Queue hart) (step.Balance s) (reply.Balance (told_move lengths moved)) c old new
