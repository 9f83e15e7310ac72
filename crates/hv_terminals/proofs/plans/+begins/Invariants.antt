use Rattle.std.proofs.Common.{length}
use Rattle.hv_terminals.proofs.plans.+begins.Given as goal

abbrev pub decreases-begins : goal.decreases-begins
decreases-begins l = length l.path.now
