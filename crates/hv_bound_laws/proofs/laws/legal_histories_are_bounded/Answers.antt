use Rattle.hv_bound_laws.proofs.Legal.{legal-bounded}
use Rattle.hv_bound_laws.proofs.laws.legal_histories_are_bounded.Goals as goal

pub returns : goal.returns
returns c = legal-bounded
