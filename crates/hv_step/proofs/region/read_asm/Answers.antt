use Rattle.std.proofs.lemmas.Result.{err_from_is_err_and}
use Rattle.hv_data.proofs.Composed.{because_more}
use Rattle.hv_data.proofs.DataLemmas.{behind}
use Rattle.hv_name.specs.declared.name.StepName.TheVariants as name
use Rattle.hv_step.specs.Reading.{AreNoArguments}
use Rattle.hv_step.proofs.region.read_asm.Goals as goal

pub returns-in_err-target : goal.returns-in_err-target
returns-in_err-target c =
    let p = err_from_is_err_and c.from_residual-in_err-target.result c.from_residual-in_err-target.ensures.1 in
    rw (p.1, p.2) (because_more {Q = AreNoArguments name.Asm c.args.words.now} _ (λ none s rest h. none s.target _ (h.0.1.0, behind c.in_ok-source.ensures.1 h.1)) c.in_err-target.ensures)

pub returns-in_err-source : goal.returns-in_err-source
returns-in_err-source c =
    let p = err_from_is_err_and c.from_residual.result c.from_residual.ensures.1 in
    rw (p.1, p.2) (because_more {Q = AreNoArguments name.Asm c.args.words.now} _ (λ none s rest h. none s.source _ (h.0.0, h.1)) c.in_err-source.ensures)
