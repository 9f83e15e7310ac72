use Rattle.hv_bound_laws.proofs.Legal.{runs-bounded}
use Rattle.hv_bound_laws.proofs.laws.runs_are_bounded.Goals as goal

pub returns : goal.returns
returns c = runs-bounded
