use Rattle.std.proofs.lemmas.Result.{err_from_is_err_and}
use Rattle.hv_data.proofs.Composed.{because_more}
use Rattle.hv_data.proofs.DataLemmas.{behind}
use Rattle.hv_name.specs.declared.name.StepName.TheVariants as name
use Rattle.hv_step.specs.Reading.{AreNoArguments}
use Rattle.hv_step.proofs.hart.read_fetch.Goals as goal

pub returns-in_err-row : goal.returns-in_err-row
returns-in_err-row c =
    let p = err_from_is_err_and c.from_residual-in_err-row.result c.from_residual-in_err-row.ensures.1 in
    rw (p.1, p.2) (because_more {Q = AreNoArguments name.Fetch c.args.words.now} _ (λ none s rest h. none s.row _ (h.0.1.0, behind c.in_ok-vcpu.ensures.1 h.1)) c.in_err-row.ensures)

pub returns-in_err-generation : goal.returns-in_err-generation
returns-in_err-generation c =
    let p = err_from_is_err_and c.from_residual-in_err-generation.result c.from_residual-in_err-generation.ensures.1 in
    rw (p.1, p.2) (because_more {Q = AreNoArguments name.Fetch c.args.words.now} _ (λ none s rest h. none s.generation _ (h.0.1.1, behind c.in_ok-row.ensures.1 (behind c.in_ok-vcpu.ensures.1 h.1))) c.in_err-generation.ensures)
