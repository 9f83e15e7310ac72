use Rattle.std.proofs.lemmas.Result.{err_from_is_err_and}
use Rattle.hv_data.proofs.Composed.{because_more}
use Rattle.hv_data.proofs.DataLemmas.{behind}
use Rattle.hv_name.specs.declared.name.StepName.TheVariants as name
use Rattle.hv_step.specs.Reading.{AreNoArguments}
use Rattle.hv_step.proofs.region.read_feed.Goals as goal

pub returns-in_err-region : goal.returns-in_err-region
returns-in_err-region c =
    let p = err_from_is_err_and c.from_residual-in_err-region.result c.from_residual-in_err-region.ensures.1 in
    rw (p.1, p.2) (because_more {Q = AreNoArguments name.Feed c.args.words.now} _ (λ none s rest h. none s.region _ (h.0.1.0, behind c.in_ok-name.ensures.1 h.1)) c.in_err-region.ensures)

pub returns-in_err-bytes : goal.returns-in_err-bytes
returns-in_err-bytes c =
    let p = err_from_is_err_and c.from_residual-in_err-bytes.result c.from_residual-in_err-bytes.ensures.1 in
    rw (p.1, p.2) (because_more {Q = AreNoArguments name.Feed c.args.words.now} _ (λ none s rest h. none s.bytes _ (h.0.1.1.0, behind c.in_ok-region.ensures.1 (behind c.in_ok-name.ensures.1 h.1))) c.in_err-bytes.ensures)

pub returns-in_err-generation : goal.returns-in_err-generation
returns-in_err-generation c =
    let p = err_from_is_err_and c.from_residual-in_err-generation.result c.from_residual-in_err-generation.ensures.1 in
    rw (p.1, p.2) (because_more {Q = AreNoArguments name.Feed c.args.words.now} _ (λ none s rest h. none s.generation _ (h.0.1.1.1.0, behind c.in_ok-bytes.ensures.1 (behind c.in_ok-region.ensures.1 (behind c.in_ok-name.ensures.1 h.1)))) c.in_err-generation.ensures)
