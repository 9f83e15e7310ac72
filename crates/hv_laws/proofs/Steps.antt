-- What a step changes, by the components that it touches.
use Rattle.std.proofs.Common.{◌≡◌, ℕ, Bool, true, false, ◌==◌, ◌||◌, refl, List, [], ◌∷◌, ◌++◌, map, arith, ◌+◌, ◌<◌, ◌≤◌, zero, suc}
use Rattle.std.specs.Prelude.{Option, None, Some}
use Rattle.std.specs.List.{list_any, range_with_len}
use Rattle.hv_kinds.specs.declared.generation.Generation.{Generation}
use Rattle.hv_queue.specs.declared.entry.QueueEntry.{QueueEntry}
use Rattle.hv_event.specs.declared.event.CellId.{CellId}
use Rattle.hv_event.specs.declared.event.CellId.TheVariants.{Dir, Queue}
use Rattle.hv_rules.specs.Footprint.{past_dir, past_dir_if}
use Rattle.hv_rules.specs.Queue.{QueueAgrees, queue_after}
use Rattle.hv_rules.specs.Vcpu.{VcpuAgrees, vcpu_after}
use Rattle.hv_step.specs.declared.step.ByGuest.{ByGuest}
use Rattle.hv_vcpu.specs.Vcpu.{VcpuValue}
use Rattle.hv_laws.specs.Board.{Board, Made, Changes, is_queue, is_vcpu}
use Rattle.hv_laws.proofs.Frame.{after-step, touched, untouched}

module _ (cs : List CellId) (before after : Board) (made : Made) (changes : Changes cs before after made) where
  abbrev queue_then : ℕ → List QueueEntry
  queue_then g = queue_after g (before.queues g) made.step made.reply made.carry

  abbrev QueueOk : ℕ → Type 0
  QueueOk g = QueueAgrees g (before.queues g) made.step made.reply made.carry

  abbrev vcpu_then : ℕ → VcpuValue
  vcpu_then v = vcpu_after made.by (before.vcpus v) made.step made.reply made.carry

  abbrev VcpuOk : ℕ → Type 0
  VcpuOk v = VcpuAgrees made.by (before.vcpus v) made.step made.reply made.carry

  pub queue-step : (g : ℕ) (P : List QueueEntry → Type 0) → (list_any (is_queue g) cs ≡ true → QueueOk g → P (queue_then g)) → (list_any (is_queue g) cs ≡ false → P (before.queues g)) → P (after.queues g)
  queue-step g P = after-step P (list_any (is_queue g) cs) (QueueOk g) (queue_then g) (before.queues g) (after.queues g) (changes.queues g)

  pub queue-touched : (g : ℕ) → list_any (is_queue g) cs ≡ true → QueueOk g × (after.queues g ≡ queue_then g)
  queue-touched g t = touched (list_any (is_queue g) cs) (QueueOk g) (queue_then g) (before.queues g) (after.queues g) t (changes.queues g)

  pub queue-untouched : (g : ℕ) → list_any (is_queue g) cs ≡ false → after.queues g ≡ before.queues g
  queue-untouched g t = untouched (list_any (is_queue g) cs) (QueueOk g) (queue_then g) (before.queues g) (after.queues g) t (changes.queues g)

  pub vcpu-step : (v : ℕ) (P : VcpuValue → Type 0) → (list_any (is_vcpu v) cs ≡ true → VcpuOk v → P (vcpu_then v)) → (list_any (is_vcpu v) cs ≡ false → P (before.vcpus v)) → P (after.vcpus v)
  vcpu-step v P = after-step P (list_any (is_vcpu v) cs) (VcpuOk v) (vcpu_then v) (before.vcpus v) (after.vcpus v) (changes.vcpus v)

  pub vcpu-touched : (v : ℕ) → list_any (is_vcpu v) cs ≡ true → VcpuOk v × (after.vcpus v ≡ vcpu_then v)
  vcpu-touched v t = touched (list_any (is_vcpu v) cs) (VcpuOk v) (vcpu_then v) (before.vcpus v) (after.vcpus v) t (changes.vcpus v)

  pub vcpu-untouched : (v : ℕ) → list_any (is_vcpu v) cs ≡ false → after.vcpus v ≡ before.vcpus v
  vcpu-untouched v t = untouched (list_any (is_vcpu v) cs) (VcpuOk v) (vcpu_then v) (before.vcpus v) (after.vcpus v) t (changes.vcpus v)

-- a step that the directory may stop
pub past-dir-if : (P : List CellId → Type 0) (guest : Option ByGuest) (later : List CellId) → P (Dir ∷ []) → P later → P (Dir ∷ later) → P (past_dir_if guest later)
past-dir-if P None later stopped made past = made
past-dir-if P (Some guest) later stopped made past = at guest.generation
  where
    at : (generation : Option Generation) → P (past_dir generation (λ g. later))
    at None = stopped
    at (Some g) = past

-- the queues of all harts, before other components
pub past-queues : (v : ℕ) (ns : List ℕ) (cs : List CellId) → list_any (is_vcpu v) (map Queue ns ++ cs) ≡ list_any (is_vcpu v) cs
past-queues v [] cs = refl
past-queues v (n ∷ ns) cs = past-queues v ns cs

pub queue-among : (b n g : ℕ) (cs : List CellId) → b ≤ g → g < b + n → list_any (is_queue g) (map Queue (range_with_len b n) ++ cs) ≡ true
queue-among b zero g cs l r = absurd (omega arith)
queue-among b (suc n) g cs l r =
    let rest = list_any (is_queue g) (map Queue (range_with_len (b + 1) n) ++ cs) in
    let Goal : Bool → Type 0 = λ t. (g == b) ≡ t → (t || rest) ≡ true in
    elim (g == b) as Goal [ true ↦ λ _. refl | false ↦ λ is. let more = above b g l is in queue-among (b + 1) n g cs (omega arith) (omega arith) ] refl
  where
    above : (b g : ℕ) → b ≤ g → (g == b) ≡ false → b < g
    above b g l is = grind arith
