use Rattle.hv_laws.proofs.Runs.{running-is-current}
use Rattle.hv_laws.proofs.laws.running_vcpus_are_current.Goals as goal

pub returns : goal.returns
returns c = running-is-current
