use Rattle.std.proofs.Common.{refl}
use Rattle.std.proofs.lemmas.Bool.{false≢true}
use Rattle.hv_bundle.proofs.Neighbours.{free_exactly}
use Rattle.hv_bundle.proofs.taken.is_free.Goals as goal

pub returns-then-lies_in_a_file : goal.returns-then-lies_in_a_file
returns-then-lies_in_a_file c = (
  λ t. absurd (false≢true t),
  λ apart. let one = c.if-lies_in_a_file.ensures.0 refl in absurd ((apart one.0 one.1).not_above one.2),
)

pub returns : goal.returns
returns c =
    free_exactly c.args.taken.now c.args.path.now c.is_a_folder.result (λ one. false≢true (c.if-lies_in_a_file.ensures.1 one)) c.is_a_folder.ensures
