use Rattle.std.proofs.Common.{◌≡◌, take}
use Rattle.hv_queue.specs.Queue.{best_of}
use Rattle.hv_queue.proofs.queue.Queue.head.Given as goal

abbrev pub invariant-loop-entry : goal.invariant-loop-entry
invariant-loop-entry l = l.best ≡ best_of (take l.entry-index l.entry-items)
