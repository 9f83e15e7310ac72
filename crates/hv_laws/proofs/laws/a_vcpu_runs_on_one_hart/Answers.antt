use Rattle.hv_laws.proofs.Runs.{runs-apart}
use Rattle.hv_laws.proofs.laws.a_vcpu_runs_on_one_hart.Goals as goal

pub returns : goal.returns
returns c = runs-apart
