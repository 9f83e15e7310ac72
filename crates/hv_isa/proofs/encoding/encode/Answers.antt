-- The word is the only one, since two words that are the same instruction are one.
use Rattle.std.proofs.Common.{arith}
use Rattle.hv_isa.proofs.Words.{decoded-once}
use Rattle.hv_isa.proofs.encoding.encode.Goals as goal

pub returns-clause-only : goal.returns-clause-only
returns-clause-only c word fits is =
    decoded-once word c.word_of.result fits (omega arith) c.args.inst is c.word_of.ensures
