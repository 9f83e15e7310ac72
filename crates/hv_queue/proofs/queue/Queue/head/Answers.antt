use Rattle.std.proofs.Common.{◌∙◌}
use Rattle.hv_queue.proofs.Best.{best-more}
use Rattle.hv_queue.proofs.queue.Queue.head.Goals as goal

pub loop-entry-preserved : goal.loop-entry-preserved
loop-entry-preserved c = c.later-best.ensures ∙ best-more _ _ _ _ c.loop-entry-test.true c.loop-entry.invariant
