use Rattle.std.proofs.Common.{take}
use Rattle.hv_region.proofs.Meetings.{Least}
use Rattle.hv_region.proofs.list.least_met.Given as goal

abbrev pub invariant-loop-there : goal.invariant-loop-there
invariant-loop-there l = Least (take l.there-index l.windows) l.window l.least
