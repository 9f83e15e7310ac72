use Rattle.hv_window_laws.proofs.Accesses.{accesses-held, accesses-reach-one}
use Rattle.hv_window_laws.proofs.laws.accesses_reach_one_region.Goals as goal

pub returns-clause-region : goal.returns-clause-region
returns-clause-region c = accesses-reach-one

pub returns-clause-range : goal.returns-clause-range
returns-clause-range c = accesses-held
