use Rattle.std.proofs.Common.{◌≡◌, ◌≤◌, length}
use Rattle.hv_dtlex.specs.Blank.{blank_len, behind_blanks}
use Rattle.hv_dtlex.proofs.blank.skip.Given as goal

abbrev pub invariant-loop-size : goal.invariant-loop-size
invariant-loop-size l = record {
  len : l.size ≡ blank_len l.rest;
  within : l.size ≤ length l.rest;
  left : length l.rest ≤ length l.text;
  same : behind_blanks l.rest ≡ behind_blanks l.text;
}

abbrev pub decreases-loop-size : goal.decreases-loop-size
decreases-loop-size l = length l.rest
