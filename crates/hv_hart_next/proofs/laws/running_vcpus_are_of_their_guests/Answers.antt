-- It is a lemma, of each state that is reached.
use Rattle.hv_hart_next.proofs.Vcpus.{born-reached, running-born}
use Rattle.hv_hart_next.proofs.laws.running_vcpus_are_of_their_guests.Goals as goal

pub returns : goal.returns
returns c = λ O s is v h runs. running-born O s (born-reached O s is) v h runs
