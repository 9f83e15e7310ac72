use Rattle.hv_words.proofs.SaidLemmas.{says_what_is_told, never_memory}
use Rattle.hv_words.proofs.read.lines_say_what_is_told.Goals as goal

pub returns-clause-exact : goal.returns-clause-exact
returns-clause-exact c = λ line read. says_what_is_told line read

pub returns-clause-definite : goal.returns-clause-definite
returns-clause-definite c = λ line e. never_memory line e
