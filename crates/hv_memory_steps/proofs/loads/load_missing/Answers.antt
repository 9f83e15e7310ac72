use Rattle.hv_memory_steps.proofs.RangeLemmas.{space_load_missing}
use Rattle.hv_memory_steps.proofs.loads.load_missing.Goals as goal

pub returns-clause-space : goal.returns-clause-space
returns-clause-space g c = λ s space. space_load_missing s _ _ space c.made_alone.ensures.handed
