-- It is a lemma.
use Rattle.hv_model.proofs.BoardLemmas.{rounds-legal}
use Rattle.hv_model.proofs.laws.rounds_are_legal.Goals as goal

pub returns : goal.returns
returns c = rounds-legal
