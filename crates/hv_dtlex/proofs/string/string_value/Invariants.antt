use Rattle.std.proofs.Common.{◌≡◌, ◌++◌, length}
use Rattle.hv_dtlex.specs.Values.{string_bytes}
use Rattle.hv_dtlex.proofs.string.string_value.Given as goal

abbrev pub invariant-loop-rest : goal.invariant-loop-rest
invariant-loop-rest l = l.bytes.items ++ string_bytes l.rest ≡ string_bytes l.text

abbrev pub decreases-loop-rest : goal.decreases-loop-rest
decreases-loop-rest l = length l.rest
