use Rattle.std.proofs.Common.{◌+◌, length}
use Rattle.hv_merge.proofs.PairLemmas.{IsMidway}
use Rattle.hv_merge.proofs.pair.merge_two.Given as goal

abbrev pub invariant-loop-event : goal.invariant-loop-event
invariant-loop-event l = IsMidway l.fn.one.items l.fn.other.items l.all.items l.one.items l.other.items

abbrev pub decreases-loop-event : goal.decreases-loop-event
decreases-loop-event l = length l.one.items + length l.other.items
