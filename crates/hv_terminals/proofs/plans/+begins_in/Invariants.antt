use Rattle.std.proofs.Common.{length}
use Rattle.hv_terminals.proofs.plans.+begins_in.Given as goal

abbrev pub decreases-begins_in : goal.decreases-begins_in
decreases-begins_in l = length l.path.now
