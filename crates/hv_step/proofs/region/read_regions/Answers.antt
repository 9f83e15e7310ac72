use Rattle.std.proofs.lemmas.Result.{err_from_is_err_and}
use Rattle.hv_data.proofs.Composed.{because_more}
use Rattle.hv_data.proofs.DataLemmas.{behind}
use Rattle.hv_name.specs.declared.name.StepName.TheVariants as name
use Rattle.hv_step.specs.Reading.{AreNoArguments}
use Rattle.hv_step.proofs.region.read_regions.Goals as goal

pub returns-in_err-generation : goal.returns-in_err-generation
returns-in_err-generation c =
    let p = err_from_is_err_and c.from_residual-in_err-generation.result c.from_residual-in_err-generation.ensures.1 in
    rw (p.1, p.2) (because_more {Q = AreNoArguments name.Regions c.args.words.now} _ (λ none s rest h. none s.generation _ (h.0.1.0, behind c.in_ok-name.ensures.1 h.1)) c.in_err-generation.ensures)
