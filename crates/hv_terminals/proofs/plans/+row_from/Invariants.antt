use Rattle.std.proofs.Common.{length}
use Rattle.hv_terminals.proofs.plans.+row_from.Given as goal

abbrev pub decreases-row_from : goal.decreases-row_from
decreases-row_from l = length l.regions.now
