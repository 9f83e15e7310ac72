-- It is a lemma, of each state that is reached.
use Rattle.hv_hart_next.proofs.Reached.{known-reached}
use Rattle.hv_hart_next.proofs.Unique.{hart-unique}
use Rattle.hv_hart_next.proofs.laws.a_hart_has_one_next_event.Goals as goal

pub returns : goal.returns
returns c = λ O s is h e f p q a b. hart-unique O s h (known-reached O s is) e f p q a b
