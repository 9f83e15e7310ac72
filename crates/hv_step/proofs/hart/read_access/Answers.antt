use Rattle.std.proofs.lemmas.Result.{err_from_is_err_and}
use Rattle.hv_data.proofs.Composed.{because_more}
use Rattle.hv_data.proofs.DataLemmas.{behind}
use Rattle.hv_name.specs.declared.name.StepName.TheVariants as name
use Rattle.hv_step.specs.Reading.{AreNoArguments}
use Rattle.hv_step.proofs.hart.read_access.Goals as goal

pub returns-in_err-row : goal.returns-in_err-row
returns-in_err-row c =
    let p = err_from_is_err_and c.from_residual-in_err-row.result c.from_residual-in_err-row.ensures.1 in
    rw (p.1, p.2) (because_more {Q = AreNoArguments name.Access c.args.words.now} _ (λ none s rest h. none s.row _ (h.0.1.0, behind c.in_ok-vcpu.ensures.1 h.1)) c.in_err-row.ensures)

pub returns-in_err-address : goal.returns-in_err-address
returns-in_err-address c =
    let p = err_from_is_err_and c.from_residual-in_err-address.result c.from_residual-in_err-address.ensures.1 in
    rw (p.1, p.2) (because_more {Q = AreNoArguments name.Access c.args.words.now} _ (λ none s rest h. none s.address _ (h.0.1.1.0, behind c.in_ok-row.ensures.1 (behind c.in_ok-vcpu.ensures.1 h.1))) c.in_err-address.ensures)

pub returns-in_err-size : goal.returns-in_err-size
returns-in_err-size c =
    let p = err_from_is_err_and c.from_residual-in_err-size.result c.from_residual-in_err-size.ensures.1 in
    rw (p.1, p.2) (because_more {Q = AreNoArguments name.Access c.args.words.now} _ (λ none s rest h. none s.size _ (h.0.1.1.1.0, behind c.in_ok-address.ensures.1 (behind c.in_ok-row.ensures.1 (behind c.in_ok-vcpu.ensures.1 h.1)))) c.in_err-size.ensures)

pub returns-in_err-direction : goal.returns-in_err-direction
returns-in_err-direction c =
    let p = err_from_is_err_and c.from_residual-in_err-direction.result c.from_residual-in_err-direction.ensures.1 in
    rw (p.1, p.2) (because_more {Q = AreNoArguments name.Access c.args.words.now} _ (λ none s rest h. none s.direction _ (h.0.1.1.1.1.0, behind c.in_ok-size.ensures.1 (behind c.in_ok-address.ensures.1 (behind c.in_ok-row.ensures.1 (behind c.in_ok-vcpu.ensures.1 h.1))))) c.in_err-direction.ensures)

pub returns-in_err-value : goal.returns-in_err-value
returns-in_err-value c =
    let p = err_from_is_err_and c.from_residual-in_err-value.result c.from_residual-in_err-value.ensures.1 in
    rw (p.1, p.2) (because_more {Q = AreNoArguments name.Access c.args.words.now} _ (λ none s rest h. none s.value _ (h.0.1.1.1.1.1.0, behind c.in_ok-direction.ensures.1 (behind c.in_ok-size.ensures.1 (behind c.in_ok-address.ensures.1 (behind c.in_ok-row.ensures.1 (behind c.in_ok-vcpu.ensures.1 h.1)))))) c.in_err-value.ensures)

pub returns-in_err-generation : goal.returns-in_err-generation
returns-in_err-generation c =
    let p = err_from_is_err_and c.from_residual-in_err-generation.result c.from_residual-in_err-generation.ensures.1 in
    rw (p.1, p.2) (because_more {Q = AreNoArguments name.Access c.args.words.now} _ (λ none s rest h. none s.generation _ (h.0.1.1.1.1.1.1, behind c.in_ok-value.ensures.1 (behind c.in_ok-direction.ensures.1 (behind c.in_ok-size.ensures.1 (behind c.in_ok-address.ensures.1 (behind c.in_ok-row.ensures.1 (behind c.in_ok-vcpu.ensures.1 h.1))))))) c.in_err-generation.ensures)
