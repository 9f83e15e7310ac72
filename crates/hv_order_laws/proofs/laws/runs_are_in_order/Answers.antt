use Rattle.hv_order_laws.proofs.Legal.{runs-in-order}
use Rattle.hv_order_laws.proofs.laws.runs_are_in_order.Goals as goal

pub returns : goal.returns
returns c = runs-in-order
