use Rattle.std.proofs.lemmas.Result.{err_from_is_err_and}
use Rattle.hv_data.proofs.Composed.{because_more}
use Rattle.hv_data.proofs.DataLemmas.{behind}
use Rattle.hv_name.specs.declared.name.StepName.TheVariants as name
use Rattle.hv_step.specs.Reading.{AreNoArguments}
use Rattle.hv_step.proofs.vcpu.read_vadd.Goals as goal

pub returns-in_err-birth : goal.returns-in_err-birth
returns-in_err-birth c =
    let p = err_from_is_err_and c.from_residual-in_err-birth.result c.from_residual-in_err-birth.ensures.1 in
    rw (p.1, p.2) (because_more {Q = AreNoArguments name.Vadd c.args.words.now} _ (λ none s rest h. none s.birth _ (h.0.1.0, behind c.in_ok-vcpu.ensures.1 h.1)) c.in_err-birth.ensures)
