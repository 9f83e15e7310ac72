use Rattle.std.proofs.Common.{arith}
use Rattle.xvsim.proofs.Counts.{depth_next, depth_end}
use Rattle.xvsim.proofs.limits.depth.Goals as goal

pub loop-file-preserved : goal.loop-file-preserved
loop-file-preserved c =
    omega (arith, depth_next c.args.files.now c.loop-file.file-index c.file-item.result c.file-item.result c.loop-file-test.true c.file-item.is, c.loop-file.invariant)

pub returns : goal.returns
returns c = omega (arith, depth_end c.args.files.now c.loop-file.file-index c.loop-file-test.false, c.loop-file.invariant)
