-- It is a lemma, of each state that is reached.
use Rattle.hv_hart_next.proofs.Owing.{owe-reached, owing-exists}
use Rattle.hv_hart_next.proofs.Reached.{known-reached}
use Rattle.hv_hart_next.proofs.laws.an_owing_terminal_has_a_next_event.Goals as goal

pub returns : goal.returns
returns c = λ O s is t owes. owing-exists O s (known-reached O s is) t (owe-reached O s is) owes
