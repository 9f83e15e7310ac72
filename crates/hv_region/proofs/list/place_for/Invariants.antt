use Rattle.std.proofs.Common.{◌<◌, take, All}
use Rattle.hv_region.specs.Windows.{start_of}
use Rattle.hv_region.proofs.list.place_for.Given as goal

abbrev pub invariant-loop-place : goal.invariant-loop-place
invariant-loop-place l = All (λ there. start_of there < start_of l.window) (take l.place l.windows)
