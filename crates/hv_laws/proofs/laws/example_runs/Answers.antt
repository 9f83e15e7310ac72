use Rattle.hv_laws.proofs.Example.{example-runs}
use Rattle.hv_laws.proofs.laws.example_runs.Goals as goal

pub returns-clause-run : goal.returns-clause-run
returns-clause-run c = example-runs
