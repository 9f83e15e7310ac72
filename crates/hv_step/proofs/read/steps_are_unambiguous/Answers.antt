use Rattle.hv_step.proofs.Fronts.{same_step}
use Rattle.hv_step.proofs.read.steps_are_unambiguous.Goals as goal

pub returns : goal.returns
returns c = same_step
