use Rattle.std.proofs.Common.{◌≤◌, ◌<◌}
use Rattle.hv_plic.specs.Meaning.{meaning}
use Rattle.hv_plic.proofs.Claims.{IsBestBefore}
use Rattle.hv_plic.proofs.plic.Plic.best.Given as goal

-- the best of the sources before this one
abbrev pub invariant-loop-source : goal.invariant-loop-source
invariant-loop-source l =
    IsBestBefore (meaning l.self) l.context l.source l.best l.greatest × (l.best < 32) × (1 ≤ l.source) × (l.source ≤ 32)
