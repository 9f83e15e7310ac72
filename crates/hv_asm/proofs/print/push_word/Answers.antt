use Rattle.std.proofs.Common.{Some, None, arith}
use Rattle.hv_asm.proofs.Printed.{text_stands}
use Rattle.hv_asm.proofs.print.push_word.Goals as goal

pub returns-in_err-append-in-None-clause-reads_back : goal.returns-in_err-append-in-None-clause-reads_back
returns-in_err-append-in-None-clause-reads_back c = text_stands c.args.word None (omega arith) c.in-None.ensures.table tt

pub returns-in-Some-clause-reads_back : goal.returns-in-Some-clause-reads_back
returns-in-Some-clause-reads_back c = text_stands c.args.word (Some c.in-Some.inst) (omega arith) c.in-Some.ensures.table c.in-Some.ensures.well_formed

pub returns-in_ok-append-in-None-clause-reads_back : goal.returns-in_ok-append-in-None-clause-reads_back
returns-in_ok-append-in-None-clause-reads_back c = text_stands c.args.word None (omega arith) c.in-None.ensures.table tt
