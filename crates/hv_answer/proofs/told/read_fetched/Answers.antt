use Rattle.std.proofs.Common.{arith}
use Rattle.hv_answer.proofs.Laws.{no_long_word}
use Rattle.hv_answer.proofs.told.read_fetched.Goals as goal

pub returns-then-word : goal.returns-then-word
returns-then-word c = no_long_word c.args.words.now c.in_ok-word.rest.now c.in_ok-word.word c.in_ok-word.ensures (omega arith)
