use Rattle.std.proofs.Common.{◌≡◌, ◌+◌, ◌<◌, length, drop}
use Rattle.hv_rules.specs.Balance.{shortest}
use Rattle.hv_vcpu_steps.proofs.lengths.shortest.Given as goal

abbrev pub invariant-loop-number : goal.invariant-loop-number
invariant-loop-number l = (l.place < length l.lengths) × (l.number < length l.lengths) × (l.place ≡ l.number + shortest (drop l.number l.lengths))
