-- It is a lemma, of each state that is reached.
use Rattle.hv_hart_next.proofs.Exists.{hart-exists}
use Rattle.hv_hart_next.proofs.Reached.{known-reached}
use Rattle.hv_hart_next.proofs.Turns.{counts-reached}
use Rattle.hv_hart_next.proofs.Vcpus.{born-reached, running-born}
use Rattle.hv_hart_next.proofs.laws.a_hart_has_a_next_event.Goals as goal

pub returns : goal.returns
returns c = λ O s is h below due.
    hart-exists O s (known-reached O s is) (λ v g runs. running-born O s (born-reached O s is) v g runs) h
    (counts-reached O s is h below) due
