use Rattle.std.proofs.lemmas.Result.{err_from_is_err_and}
use Rattle.hv_data.proofs.Composed.{because_more}
use Rattle.hv_data.proofs.DataLemmas.{behind}
use Rattle.hv_name.specs.declared.name.StepName.TheVariants as name
use Rattle.hv_step.specs.Reading.{AreNoArguments}
use Rattle.hv_step.proofs.region.read_mem.Goals as goal

pub returns-in_err-address : goal.returns-in_err-address
returns-in_err-address c =
    let p = err_from_is_err_and c.from_residual-in_err-address.result c.from_residual-in_err-address.ensures.1 in
    rw (p.1, p.2) (because_more {Q = AreNoArguments name.Mem c.args.words.now} _ (λ none s rest h. none s.address _ (h.0.1.0, behind c.in_ok-name.ensures.1 h.1)) c.in_err-address.ensures)

pub returns-in_err-count : goal.returns-in_err-count
returns-in_err-count c =
    let p = err_from_is_err_and c.from_residual-in_err-count.result c.from_residual-in_err-count.ensures.1 in
    rw (p.1, p.2) (because_more {Q = AreNoArguments name.Mem c.args.words.now} _ (λ none s rest h. none s.count _ (h.0.1.1.0, behind c.in_ok-address.ensures.1 (behind c.in_ok-name.ensures.1 h.1))) c.in_err-count.ensures)

pub returns-in_err-generation : goal.returns-in_err-generation
returns-in_err-generation c =
    let p = err_from_is_err_and c.from_residual-in_err-generation.result c.from_residual-in_err-generation.ensures.1 in
    rw (p.1, p.2) (because_more {Q = AreNoArguments name.Mem c.args.words.now} _ (λ none s rest h. none s.generation _ (h.0.1.1.1.0, behind c.in_ok-count.ensures.1 (behind c.in_ok-address.ensures.1 (behind c.in_ok-name.ensures.1 h.1)))) c.in_err-generation.ensures)
