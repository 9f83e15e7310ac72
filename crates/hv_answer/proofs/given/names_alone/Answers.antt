use Rattle.std.proofs.lemmas.Result.{err_from_is_err_and}
use Rattle.hv_data.proofs.Composed.{because_more}
use Rattle.hv_answer.proofs.Laws.{no_names}
use Rattle.hv_answer.proofs.given.names_alone.Goals as goal

pub returns-in_err-given : goal.returns-in_err-given
returns-in_err-given c =
    let p = err_from_is_err_and c.from_residual.result c.from_residual.ensures.1 in
    rw (p.1, p.2) (because_more _ (no_names c.args.words.now) c.in_err-given.ensures)
