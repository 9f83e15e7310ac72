use Rattle.std.proofs.lemmas.Result.{err_from_is_err_and}
use Rattle.hv_data.proofs.Composed.{because_more}
use Rattle.hv_data.proofs.DataLemmas.{behind}
use Rattle.hv_name.specs.declared.name.StepName.TheVariants as name
use Rattle.hv_step.specs.Reading.{AreNoArguments}
use Rattle.hv_step.proofs.region.read_stage.Goals as goal

pub returns-in_err-from : goal.returns-in_err-from
returns-in_err-from c =
    let p = err_from_is_err_and c.from_residual-in_err-from.result c.from_residual-in_err-from.ensures.1 in
    rw (p.1, p.2) (because_more {Q = AreNoArguments name.Stage c.args.words.now} _ (λ none s rest h. none s.from _ (h.0.1.0, behind c.in_ok-name.ensures.1 h.1)) c.in_err-from.ensures)

pub returns-in_err-to : goal.returns-in_err-to
returns-in_err-to c =
    let p = err_from_is_err_and c.from_residual-in_err-to.result c.from_residual-in_err-to.ensures.1 in
    rw (p.1, p.2) (because_more {Q = AreNoArguments name.Stage c.args.words.now} _ (λ none s rest h. none s.to _ (h.0.1.1.0, behind c.in_ok-from.ensures.1 (behind c.in_ok-name.ensures.1 h.1))) c.in_err-to.ensures)
