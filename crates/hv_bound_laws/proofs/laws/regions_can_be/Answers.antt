use Rattle.hv_bound_laws.proofs.Plans.{good-regions}
use Rattle.hv_bound_laws.proofs.laws.regions_can_be.Goals as goal

pub returns : goal.returns
returns c = good-regions
