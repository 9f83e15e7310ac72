use Rattle.hv_order_laws.proofs.Legal.{lines-own}
use Rattle.hv_order_laws.proofs.laws.lines_own_their_guests.Goals as goal

pub returns : goal.returns
returns c = lines-own
