-- The queue of the VCPUs that are ready on a hart: entries in order of arrival.
use Rattle.std.specs.Prelude.{ℕ, ◌+◌, ◌<◌, ◌≤◌, ◌==◌, nat_lt, if◌then◌else◌, List, [], ◌∷◌, ◌++◌, All, Option, Some, None}
use Rattle.hv_text.specs.declared.limits.TheConstants.{VCPUS}
use Rattle.hv_queue.specs.declared.entry.QueueEntry.{QueueEntry}

-- What the entries of a queue weigh together, each by a weight of its own.
abbrev pub weigh : (QueueEntry → ℕ) → List QueueEntry → ℕ
weigh w [] = 0
weigh w (e ∷ es) = w e + weigh w es

-- An entry of a VCPU weighs 1, and another nothing.
abbrev pub of_vcpu : ℕ → QueueEntry → ℕ
of_vcpu v e = if v == e.vcpu then 1 else 0

-- How often a VCPU stands in a queue.
abbrev pub count_in : ℕ → List QueueEntry → ℕ
count_in v q = weigh (of_vcpu v) q

-- An entry is of one of the board's VCPUs and has one of 8 priorities.
pub record IsEntry (e : QueueEntry) : Type 0 where
  pub vcpu : e.vcpu < VCPUS
  pub priority : e.priority < 8

-- Each VCPU stands in a queue at most once.
pub record IsQueue (q : List QueueEntry) : Type 0 where
  pub each : All IsEntry q
  pub once : (v : ℕ) → count_in v q ≤ 1

-- The queue without a VCPU.
abbrev pub without : ℕ → List QueueEntry → List QueueEntry
without v [] = []
without v (e ∷ es) = if v == e.vcpu then without v es else e ∷ without v es

-- The queue with an entry at its end, and without the one that its VCPU had.
abbrev pub appended : QueueEntry → List QueueEntry → List QueueEntry
appended e q = without e.vcpu q ++ e ∷ []

-- The better of an entry and the best one behind it: the entry, unless the other has a greater priority.
abbrev pub better : QueueEntry → Option QueueEntry → Option QueueEntry
better e None = Some e
better e (Some f) = if nat_lt e.priority f.priority then Some f else Some e

-- The first entry of the greatest priority.
abbrev pub best_of : List QueueEntry → Option QueueEntry
best_of [] = None
best_of (e ∷ es) = better e (best_of es)

-- The VCPU of an entry.
abbrev pub vcpu_of : Option QueueEntry → Option ℕ
vcpu_of None = None
vcpu_of (Some e) = Some e.vcpu

-- The VCPU at the head, whose entry is the first of the greatest priority.
abbrev pub head_of : List QueueEntry → Option ℕ
head_of q = vcpu_of (best_of q)

-- The queue without a VCPU, if there is one.
abbrev pub without_any : Option ℕ → List QueueEntry → List QueueEntry
without_any None q = q
without_any (Some v) q = without v q

-- The queue without its head.
abbrev pub without_head : List QueueEntry → List QueueEntry
without_head q = without_any (head_of q) q

-- The last entry.
abbrev pub last_of : List QueueEntry → Option QueueEntry
last_of [] = None
last_of (e ∷ []) = Some e
last_of (e ∷ f ∷ es) = last_of (f ∷ es)

-- The queue without its last entry.
abbrev pub front_of : List QueueEntry → List QueueEntry
front_of [] = []
front_of (e ∷ []) = []
front_of (e ∷ f ∷ es) = e ∷ front_of (f ∷ es)

-- A VCPU and its priority.
abbrev pub pair_of : Option QueueEntry → Option (ℕ × ℕ)
pair_of None = None
pair_of (Some e) = Some (e.vcpu, e.priority)
