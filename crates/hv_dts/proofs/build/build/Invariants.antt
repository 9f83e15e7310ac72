use Rattle.std.proofs.Common.{length}
use Rattle.std.specs.Prelude.{reverse}
use Rattle.hv_dts.specs.Maps.{links_in}
use Rattle.hv_dts.proofs.Trees.{Continues}
use Rattle.hv_dts.proofs.build.build.Given as goal

abbrev pub invariant-taking : goal.invariant-taking
invariant-taking l = Continues (links_in l.links) l.building (reverse l.left) l.fn.entries l.fn.given

abbrev pub decreases-taking : goal.decreases-taking
decreases-taking l = length l.left
