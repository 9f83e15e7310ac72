use Rattle.std.proofs.Common.{ℕ, List, ◌∷◌, []}
use Rattle.std.proofs.lemmas.Result.{err_from_is_err_and}
use Rattle.hv_kinds.specs.declared.address.AddressType.{AddressType}
use Rattle.hv_data.specs.Data.{Number8, TypeOf, HaveData}
use Rattle.hv_data.proofs.Composed.{because_more}
use Rattle.hv_data.proofs.DataLemmas.{behind}
use Rattle.hv_listing.proofs.read.take_rows.Goals as goal

pub returns-in_err-target : goal.returns-in_err-target
returns-in_err-target c =
    let p = err_from_is_err_and c.from_residual-in_err-target.result c.from_residual-in_err-target.ensures.1 in
    rw (p.1, p.2) (because_more {Q = (owner target : ℕ) (t : AddressType) (rest : List (List ℕ)) → HaveData c.args.words.now (Number8 owner ∷ Number8 target ∷ TypeOf t ∷ []) rest → ⊥} _ (λ none owner target t rest h. none target _ (h.0.1.0, behind c.in_ok-owner.ensures.1 h.1)) c.in_err-target.ensures)
