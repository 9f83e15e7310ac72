use Rattle.std.proofs.lemmas.Result.{err_from_is_err_and}
use Rattle.hv_data.proofs.Composed.{because_more}
use Rattle.hv_answer.proofs.Laws.{no_harts}
use Rattle.hv_answer.proofs.told.read_moved.Goals as goal

pub returns-in_err-harts : goal.returns-in_err-harts
returns-in_err-harts c =
    let p = err_from_is_err_and c.from_residual-in_err-harts.result c.from_residual-in_err-harts.ensures.1 in
    rw (p.1, p.2) (because_more _ (no_harts c.args.words.now c.in-Some.numbers.now c.in_ok-vcpu.rest.now c.in_ok-vcpu.vcpu c.in-Some.ensures c.in_ok-vcpu.ensures.1) c.in_err-harts.ensures)
