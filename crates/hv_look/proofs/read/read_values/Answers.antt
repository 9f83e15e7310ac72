use Rattle.std.proofs.Common.{arith}
use Rattle.std.proofs.lemmas.Result.{err_from_is_err_and}
use Rattle.hv_data.proofs.Composed.{because_more}
use Rattle.hv_look.proofs.Values.{none_at}
use Rattle.hv_look.proofs.read.read_values.Goals as goal

pub returns-in_err-address_word : goal.returns-in_err-address_word
returns-in_err-address_word c =
    let p = err_from_is_err_and c.from_residual.result c.from_residual.ensures.1 in
    rw (p.1, p.2) (because_more _ (none_at c.args.words.now c.loop-word.word-index c.word-item.result c.as_slice.result.now (omega arith) c.word-item.is c.as_slice.ensures) c.in_err-address_word.ensures)
