use Rattle.std.proofs.Common.{◌≡◌, List, ℕ, ◌<◌, ◌≤◌, true}
use Rattle.std.specs.Prelude.{◌==◌}
use Rattle.std.specs.List.{list_any}
use Rattle.hv_dts.specs.Sets.{HoldsNumbers}
use Rattle.hv_dts.proofs.linking.least_free.Given as goal

abbrev pub invariant-loop-number : goal.invariant-loop-number
invariant-loop-number l = (numbers : List ℕ) → HoldsNumbers l.used numbers → (n : ℕ) → l.from ≤ n → n < l.number-counter → list_any (λ one. one == n) numbers ≡ true
