use Rattle.hv_laws.proofs.Runs.{dispatch-is-not-refused}
use Rattle.hv_laws.proofs.laws.no_dispatch_is_refused.Goals as goal

pub returns : goal.returns
returns c = dispatch-is-not-refused
