use Rattle.std.proofs.Common.{ℕ, List}
use Rattle.std.specs.Prelude.{Option}
use Rattle.std.proofs.lemmas.Result.{err_from_is_err_and}
use Rattle.hv_data.proofs.Composed.{because_more}
use Rattle.hv_data.proofs.DataLemmas.{behind}
use Rattle.hv_step.specs.declared.step.ByGuest.{ByGuest}
use Rattle.hv_step.specs.Reading.{AreByGuest}
use Rattle.hv_step.proofs.vcpu.take_vcpu.Goals as goal

pub returns-in_err-guest : goal.returns-in_err-guest
returns-in_err-guest c =
    let p = err_from_is_err_and c.from_residual-in_err-guest.result c.from_residual-in_err-guest.ensures.1 in
    rw (p.1, p.2) (because_more {Q = (v : ℕ) (o : Option ByGuest) (rest : List (List ℕ)) → AreByGuest c.args.words.now v o rest → ⊥} _ (λ none v o rest h. none o rest (h.0.1, behind c.in_ok-vcpu.ensures.1 h.1, h.2)) c.in_err-guest.ensures)
