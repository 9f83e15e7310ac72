use Rattle.std.proofs.Common.{◌≡◌, ◌+◌, drop}
use Rattle.std.specs.Option.{option_map}
use Rattle.hv_dtlex.specs.Blank.{close_at}
use Rattle.hv_dtlex.proofs.blank.close_at.Given as goal

abbrev pub invariant-loop-at : goal.invariant-loop-at
invariant-loop-at l = option_map (λ n. l.at + n) (close_at (drop l.at l.text)) ≡ close_at l.text
