use Rattle.std.proofs.lemmas.Result.{err_from_is_err_and}
use Rattle.hv_data.proofs.Composed.{because_more}
use Rattle.hv_answer.proofs.Laws.{no_second}
use Rattle.hv_answer.proofs.told.read_harts.Goals as goal

pub returns-in_err-to : goal.returns-in_err-to
returns-in_err-to c =
    let p = err_from_is_err_and c.from_residual-in_err-to.result c.from_residual-in_err-to.ensures.1 in
    rw (p.1, p.2) (because_more _ (no_second c.args.words.now c.in_ok-from.rest.now c.in_ok-from.from c.in_ok-from.ensures.1) c.in_err-to.ensures)
