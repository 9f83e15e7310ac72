use Rattle.std.proofs.Common.{◌-◌, ◌≤◌, length}
use Rattle.hv_dtgram.proofs.lexed.count_tokens.Given as goal

abbrev pub invariant-counting : goal.invariant-counting
invariant-counting l = l.at ≤ length l.text

abbrev pub decreases-counting : goal.decreases-counting
decreases-counting l = length l.text - l.at
