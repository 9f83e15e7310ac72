use Rattle.std.proofs.Common.{length}
use Rattle.hv_text.proofs.Names.{ReadsSoFar}
use Rattle.hv_text.proofs.path.read_names.Given as goal

abbrev pub invariant-loop-after : goal.invariant-loop-after
invariant-loop-after l = ReadsSoFar l.text l.names.items l.rest

abbrev pub decreases-loop-after : goal.decreases-loop-after
decreases-loop-after l = length l.rest
