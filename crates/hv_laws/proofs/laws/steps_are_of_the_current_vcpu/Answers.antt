use Rattle.hv_laws.proofs.Runs.{steps-are-of-the-current}
use Rattle.hv_laws.proofs.laws.steps_are_of_the_current_vcpu.Goals as goal

pub returns : goal.returns
returns c = steps-are-of-the-current
