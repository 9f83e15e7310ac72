use Rattle.std.proofs.Common.{◌≡◌, max, drop}
use Rattle.xvsim.specs.Limits.{depth_of}
use Rattle.xvsim.proofs.limits.depth.Given as goal

abbrev pub invariant-loop-file : goal.invariant-loop-file
invariant-loop-file l = max (depth_of (drop l.file-index l.files)) l.most ≡ depth_of l.files
