-- The balancing of queues: from the longest to the shortest.
use Rattle.std.specs.Prelude.{ℕ, ◌+◌, nat_le, get_or, Bool, if◌then◌else◌, Option, None, Some, List, [], ◌∷◌}
use Rattle.std.specs.List.{list_all}
use Rattle.hv_answer.specs.declared.reply.Moved.{Moved}
use Rattle.hv_queue.specs.declared.entry.QueueEntry.{QueueEntry}

-- The place of the first number that stands in the wanted order to all behind it.
abbrev pub first_place : (fits : ℕ → ℕ → Bool) → List ℕ → ℕ
first_place fits [] = 0
first_place fits (n ∷ ns) = if list_all (fits n) ns then 0 else first_place fits ns + 1

-- The longest queue and the shortest, each the first of its length.
abbrev pub longest : (lengths : List ℕ) → ℕ
longest lengths = first_place (λ n k. nat_le k n) lengths

abbrev pub shortest : (lengths : List ℕ) → ℕ
shortest lengths = first_place nat_le lengths

-- Whether the longest queue has at least two entries more than the shortest.
abbrev pub is_uneven : (lengths : List ℕ) → Bool
is_uneven lengths = nat_le (get_or lengths (shortest lengths) 0 + 2) (get_or lengths (longest lengths) 0)

-- What is told of the entry that moves.
abbrev pub told_move : (lengths : List ℕ) → Option QueueEntry → Option Moved
told_move lengths None = None
told_move lengths (Some entry) = Some (record { vcpu = entry.vcpu; from = longest lengths; to = shortest lengths })
