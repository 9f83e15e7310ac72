use Rattle.std.proofs.Common.{arith}
use Rattle.hv_answer.proofs.Laws.{no_long_number}
use Rattle.hv_answer.proofs.given.slice_alone.Goals as goal

pub returns-then-given : goal.returns-then-given
returns-then-given c = no_long_number c.args.words.now c.in_ok-given.given c.in_ok-given.ensures (omega arith)
