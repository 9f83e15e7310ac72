use Rattle.std.proofs.Common.{◌≡◌, take}
use Rattle.hv_programs.proofs.copied.copy_regions.Given as goal

abbrev pub invariant-loop-region : goal.invariant-loop-region
invariant-loop-region l = l.copy.items ≡ take l.region-index l.regions
