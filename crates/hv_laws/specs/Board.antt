-- What the harts of a board share out, and what a step changes of it.
use Rattle.std.specs.Prelude.{◌≡◌, ℕ, ◌==◌, Bool, true, false, if◌then◌else◌, List}
use Rattle.std.specs.List.{list_any}
use Rattle.hv_answer.specs.declared.reply.Reply.{Reply}
use Rattle.hv_event.specs.declared.event.ActorId.{ActorId}
use Rattle.hv_event.specs.declared.event.ActorId.TheVariants.{Hart, Terminal}
use Rattle.hv_queue.specs.declared.entry.QueueEntry.{QueueEntry}
use Rattle.hv_rules.specs.Carry.{Carry}
use Rattle.hv_event.specs.declared.event.CellId.{CellId}
use Rattle.hv_event.specs.declared.event.CellId.TheVariants.{Queue, Vcpu}
use Rattle.hv_rules.specs.Footprint.{components}
use Rattle.hv_rules.specs.Hart.{HartState, HartAgrees, hart_after}
use Rattle.hv_rules.specs.Queue.{QueueAgrees, queue_after}
use Rattle.hv_rules.specs.Vcpu.{VcpuAgrees, vcpu_after}
use Rattle.hv_step.specs.declared.step.Step.{Step}
use Rattle.hv_vcpu.specs.Vcpu.{VcpuValue}

-- The queues, the VCPUs and the harts, each by number.
pub record Board : Type 0 where
  pub queues : ℕ → List QueueEntry
  pub vcpus : ℕ → VcpuValue
  pub harts : ℕ → HartState

-- A step that an actor made, what came of it, and what it handed over.
pub record Made : Type 0 where
  pub by : ActorId
  pub step : Step
  pub reply : Reply
  pub carry : Carry

abbrev pub is_queue : (number : ℕ) → CellId → Bool
is_queue number (Queue hart) = number == hart
is_queue number _ = false

abbrev pub is_vcpu : (number : ℕ) → CellId → Bool
is_vcpu number (Vcpu vcpu) = number == vcpu
is_vcpu number _ = false

abbrev pub is_hart : (number : ℕ) → ActorId → Bool
is_hart number (Hart hart) = number == hart
is_hart number (Terminal terminal) = false

-- What a step touches agrees to it and changes by its rule; anything else stays.
abbrev pub Becomes : {A : Type 0} → (touched : Bool) → (agrees : Type 0) → (changed before after : A) → Type 0
Becomes true agrees changed before after = agrees × (after ≡ changed)
Becomes false agrees changed before after = after ≡ before

-- What a step does to the queues and the VCPUs, where it touches these components.
pub record Changes (touched : List CellId) (before after : Board) (made : Made) : Type 0 where
  pub queues : (number : ℕ)
      → Becomes
      (list_any (is_queue number) touched)
      (QueueAgrees number (before.queues number) made.step made.reply made.carry)
      (queue_after number (before.queues number) made.step made.reply made.carry)
      (before.queues number)
      (after.queues number)
  pub vcpus : (number : ℕ)
      → Becomes
      (list_any (is_vcpu number) touched)
      (VcpuAgrees made.by (before.vcpus number) made.step made.reply made.carry)
      (vcpu_after made.by (before.vcpus number) made.step made.reply made.carry)
      (before.vcpus number)
      (after.vcpus number)

-- A step on a board with this many harts: it changes its components, and its actor where that is a hart; a terminal may
-- make any step to which the components agree.
pub record IsStep (count : ℕ) (before after : Board) (made : Made) : Type 0 where
  pub components : Changes (components count made.by made.step made.reply made.carry) before after made
  pub actor : (number : ℕ)
      → Becomes
      (is_hart number made.by)
      (HartAgrees number (before.harts number) made.step made.carry)
      (hart_after (before.harts number) made.step made.reply made.carry)
      (before.harts number)
      (after.harts number)

-- The board that a step leads to.
abbrev pub board_after : (count : ℕ) → Board → Made → Board
board_after count before made = record {
  queues = λ number.
      if list_any (is_queue number) (components count made.by made.step made.reply made.carry)
      then queue_after number (before.queues number) made.step made.reply made.carry
      else before.queues number;
  vcpus = λ number.
      if list_any (is_vcpu number) (components count made.by made.step made.reply made.carry)
      then vcpu_after made.by (before.vcpus number) made.step made.reply made.carry
      else before.vcpus number;
  harts = λ number.
      if is_hart number made.by
      then hart_after (before.harts number) made.step made.reply made.carry
      else before.harts number;
}
