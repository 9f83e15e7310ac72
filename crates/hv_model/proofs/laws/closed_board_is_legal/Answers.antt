-- It is a lemma.
use Rattle.hv_model.proofs.BoardLemmas.{closed-legal}
use Rattle.hv_model.proofs.laws.closed_board_is_legal.Goals as goal

pub returns : goal.returns
returns c = closed-legal
