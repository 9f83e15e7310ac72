use Rattle.std.proofs.Common.{[]}
use Rattle.std.proofs.lemmas.Result.{err_from_is_err_and}
use Rattle.hv_words.specs.Words.{words}
use Rattle.hv_words.specs.Commands.{NumberGiven, VcpuNumber}
use Rattle.hv_words.proofs.ArgumentLemmas.{refused_later}
use Rattle.hv_guest_words.proofs.read.only_vcpu.Goals as goal

pub returns-in_err-read_end : goal.returns-in_err-read_end
returns-in_err-read_end c =
    let p = err_from_is_err_and c.from_residual-in_err-read_end.result c.from_residual-in_err-read_end.ensures.1 in
    rw (p.1, p.2) (refused_later VcpuNumber [] c.in-Some.word.now (words c.in-Some.rest.now) (words c.args.text.now) 3 (NumberGiven c.in_ok-number.number) _ c.in-Some.ensures c.in_ok-number.ensures c.in_err-read_end.ensures)
