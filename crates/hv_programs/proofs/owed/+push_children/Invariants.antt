use Rattle.std.proofs.Common.{length}
use Rattle.hv_programs.proofs.owed.+push_children.Given as goal

abbrev pub decreases-push_children : goal.decreases-push_children
decreases-push_children l = length l.regions.now
