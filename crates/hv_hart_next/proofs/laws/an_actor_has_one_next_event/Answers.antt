-- It is a lemma, of each state that is reached.
use Rattle.hv_hart_next.proofs.Reached.{known-reached}
use Rattle.hv_hart_next.proofs.Rounds.{actor-unique}
use Rattle.hv_hart_next.proofs.laws.an_actor_has_one_next_event.Goals as goal

pub returns : goal.returns
returns c = λ O s is e f same a b. actor-unique O s e f (known-reached O s is) same a b
