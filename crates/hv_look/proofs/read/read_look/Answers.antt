use Rattle.std.proofs.lemmas.Result.{err_from_is_err_and}
use Rattle.hv_data.proofs.Composed.{because_more}
use Rattle.hv_look.proofs.Looks.{no_sliced}
use Rattle.hv_look.proofs.read.read_look.Goals as goal

pub returns-in_err-sliced : goal.returns-in_err-sliced
returns-in_err-sliced c =
    let p = err_from_is_err_and c.from_residual-in_err-sliced.result c.from_residual-in_err-sliced.ensures.1 in
    rw (p.1, p.2) (because_more _ (no_sliced c.args.words.now c.in_ok-state.rest.now c.in_ok-priority.rest.now c.in_ok-state.state c.in_ok-priority.priority c.in_ok-state.ensures.1 c.in_ok-priority.ensures.1) c.in_err-sliced.ensures)
