-- Counts of calls and faults, which stop at the last number of 64 bits.
use Rattle.std.specs.Prelude.{ℕ, ◌+◌, ◌-◌, ◌^◌, ◌≤◌, min, List, Bool, nat_eq}
use Rattle.std.specs.List.{list_any}

-- the count after one more
abbrev pub next_count : ℕ → ℕ
next_count n = min (n + 1) (2 ^ 64 - 1)

-- a count rose, or stands at its type's end
abbrev pub Rose : ℕ → ℕ → Type 0
Rose before now = next_count before ≤ now

-- the call of this number is one of those that fail
abbrev pub is_failing : List ℕ → ℕ → Bool
is_failing failing call = list_any (λ n. nat_eq n call) failing
