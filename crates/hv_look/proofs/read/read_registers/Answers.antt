use Rattle.std.proofs.lemmas.Result.{err_from_is_err_and}
use Rattle.hv_data.proofs.Composed.{because_more}
use Rattle.hv_look.proofs.Looks.{no_values, no_registers}
use Rattle.hv_look.proofs.read.read_registers.Goals as goal

pub returns-in_err-values : goal.returns-in_err-values
returns-in_err-values c =
    let p = err_from_is_err_and c.from_residual.result c.from_residual.ensures.1 in
    rw (p.1, p.2) (because_more _ (no_values c.args.words.now) c.in_err-values.ensures)

pub returns : goal.returns
returns c = no_registers c.args.words.now c.deref.result.now (rw c.deref.ensures.value c.in_ok-values.ensures) c.in-None.ensures
