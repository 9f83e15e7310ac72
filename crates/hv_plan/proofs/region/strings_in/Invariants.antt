use Rattle.std.proofs.Common.{◌≡◌, ◌++◌, length}
use Rattle.hv_plan.specs.Regions.{strings_in}
use Rattle.hv_plan.proofs.region.strings_in.Given as goal

abbrev pub invariant-pieces : goal.invariant-pieces
invariant-pieces l = l.strings ++ strings_in l.rest ≡ strings_in l.value

abbrev pub decreases-pieces : goal.decreases-pieces
decreases-pieces l = length l.rest
