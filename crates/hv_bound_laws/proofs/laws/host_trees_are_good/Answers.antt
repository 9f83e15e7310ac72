use Rattle.hv_bound_laws.proofs.Trees.{trees-good}
use Rattle.hv_bound_laws.proofs.laws.host_trees_are_good.Goals as goal

pub returns : goal.returns
returns c = trees-good
