use Rattle.std.proofs.Common.{◌≡◌, ◌≤◌, ◌+◌, ◌-◌, length}
use Rattle.std.specs.Option.{option_map}
use Rattle.hv_dtlex.specs.Values.{string_len}
use Rattle.hv_dtlex.proofs.string.string_len.Given as goal

abbrev pub invariant-loop-rest : goal.invariant-loop-rest
invariant-loop-rest l = record {
  left : length l.rest ≤ length l.text;
  same : option_map (λ n. length l.text - length l.rest + n) (string_len l.rest) ≡ string_len l.text;
}

abbrev pub decreases-loop-rest : goal.decreases-loop-rest
decreases-loop-rest l = length l.rest
