-- The head of a queue is one of the board's VCPUs.
use Rattle.std.proofs.Common.{◌≡◌, ℕ, ◌<◌, Bool, true, false, if◌then◌else◌, List, [], ◌∷◌, subst}
use Rattle.std.specs.Prelude.{All, nat_lt, Option, Some, None}
use Rattle.std.proofs.lemmas.List.Elements.{All-head, All-tail}
use Rattle.hv_queue.specs.Queue.{IsEntry, better, best_of, vcpu_of, head_of}
use Rattle.hv_queue.specs.declared.entry.QueueEntry.{QueueEntry}
use Rattle.hv_text.specs.declared.limits.TheConstants.{VCPUS}

-- An entry, if there is one, is of one of the board's VCPUs.
IsKnown : Option QueueEntry → Type 0
IsKnown None = Unit {0}
IsKnown (Some e) = e.vcpu < VCPUS

better-known : (e : QueueEntry) (best : Option QueueEntry) → e.vcpu < VCPUS → IsKnown best → IsKnown (better e best)
unfolding IsKnown
better-known e None is rest = is
better-known e (Some f) is rest =
    elim (nat_lt e.priority f.priority) as (λ b. IsKnown (if b then Some f else Some e)) [ true ↦ rest | false ↦ is ]

best-known : (q : List QueueEntry) → All IsEntry q → IsKnown (best_of q)
unfolding IsKnown
best-known [] each = tt
best-known (e ∷ es) each =
    better-known e (best_of es) (All-head IsEntry e es each).vcpu (best-known es (All-tail IsEntry e es each))

known-vcpu : (best : Option QueueEntry) (v : ℕ) → IsKnown best → vcpu_of best ≡ Some v → v < VCPUS
unfolding IsKnown
known-vcpu None v known is = absurd (cc)
known-vcpu (Some e) v known is = let same : e.vcpu ≡ v = cc in subst (λ n. n < VCPUS) same known

pub head-known : (q : List QueueEntry) (v : ℕ) → All IsEntry q → head_of q ≡ Some v → v < VCPUS
head-known q v each is = known-vcpu (best_of q) v (best-known q each) is
