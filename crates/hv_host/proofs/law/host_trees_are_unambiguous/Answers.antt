use Rattle.hv_host.proofs.Said.{no_refusal, one_refusal}
use Rattle.hv_host.proofs.law.host_trees_are_unambiguous.Goals as goal

pub returns-clause-board : goal.returns-clause-board
returns-clause-board c = no_refusal

pub returns-clause-refusal : goal.returns-clause-refusal
returns-clause-refusal c = one_refusal
