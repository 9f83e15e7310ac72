use Rattle.std.proofs.Common.{◌≡◌, ◌++◌, length}
use Rattle.hv_data.specs.Reading.{parts_at}
use Rattle.hv_data.proofs.parts.split_at_byte.Given as goal

abbrev pub invariant-loop-part : goal.invariant-loop-part
invariant-loop-part l = parts_at l.byte l.text ≡ l.parts.items ++ parts_at l.byte l.rest

abbrev pub decreases-loop-part : goal.decreases-loop-part
decreases-loop-part l = length l.rest
