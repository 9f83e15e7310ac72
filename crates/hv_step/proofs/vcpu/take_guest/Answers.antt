use Rattle.std.proofs.Common.{ℕ, List}
use Rattle.std.specs.Prelude.{Option}
use Rattle.std.proofs.lemmas.Result.{err_from_is_err_and}
use Rattle.hv_data.proofs.Composed.{because_more}
use Rattle.hv_data.proofs.DataLemmas.{behind}
use Rattle.hv_step.specs.declared.step.ByGuest.{ByGuest}
use Rattle.hv_step.specs.Reading.{AreGuest}
use Rattle.hv_step.proofs.Fronts.{no_guest}
use Rattle.hv_step.proofs.vcpu.take_guest.Goals as goal

pub returns-in_err-name : goal.returns-in_err-name
returns-in_err-name c =
    let p = err_from_is_err_and c.from_residual.result c.from_residual.ensures.1 in
    rw (p.1, p.2) (because_more {Q = (o : Option ByGuest) (rest : List (List ℕ)) → AreGuest c.args.words.now o rest → ⊥} _ (λ none. no_guest c.args.words.now c.if-not-goes_on.ensures (λ g rest h. none g.name _ (h.0.0, h.1))) c.in_err-name.ensures)

pub returns-in_err-generation : goal.returns-in_err-generation
returns-in_err-generation c =
    let p = err_from_is_err_and c.from_residual-in_err-generation.result c.from_residual-in_err-generation.ensures.1 in
    rw (p.1, p.2) (because_more {Q = (o : Option ByGuest) (rest : List (List ℕ)) → AreGuest c.args.words.now o rest → ⊥} _ (λ none. no_guest c.args.words.now c.if-not-goes_on.ensures (λ g rest h. none g.generation _ (h.0.1.0, behind c.in_ok-name.ensures.1 h.1))) c.in_err-generation.ensures)
