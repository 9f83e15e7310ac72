use Rattle.std.proofs.Common.{vec_len}
use Rattle.hv_merge.proofs.logs.+merge.Given as goal

abbrev pub decreases-merge : goal.decreases-merge
decreases-merge l = vec_len l.logs
