use Rattle.hv_window_laws.proofs.Legal.{legal-histories-match}
use Rattle.hv_window_laws.proofs.laws.legal_histories_match.Goals as goal

pub returns : goal.returns
returns c = legal-histories-match
