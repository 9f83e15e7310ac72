-- It is a lemma.
use Rattle.hv_next.proofs.Unique.{next-unique}
use Rattle.hv_next.proofs.laws.a_terminal_has_one_next_event.Goals as goal

pub returns : goal.returns
returns c = next-unique
