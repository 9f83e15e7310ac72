use Rattle.hv_order_laws.proofs.Legal.{legal-in-order}
use Rattle.hv_order_laws.proofs.laws.legal_histories_are_in_order.Goals as goal

pub returns : goal.returns
returns c = legal-in-order
