use Rattle.std.proofs.Common.{ℕ, List, ◌∷◌, []}
use Rattle.std.proofs.lemmas.Result.{err_from_is_err_and}
use Rattle.hv_kinds.specs.declared.stage.Stage.{Stage}
use Rattle.hv_data.specs.Data.{Number8, Name, At, HaveData}
use Rattle.hv_data.proofs.Composed.{because_more}
use Rattle.hv_data.proofs.DataLemmas.{behind}
use Rattle.hv_listing.proofs.read.take_guest.Goals as goal

pub returns-in_err-stage : goal.returns-in_err-stage
returns-in_err-stage c =
    let p = err_from_is_err_and c.from_residual-in_err-stage.result c.from_residual-in_err-stage.ensures.1 in
    rw (p.1, p.2) (because_more {Q = (name : List ℕ) (slot : ℕ) (stage : Stage) (rest : List (List ℕ)) → HaveData c.args.words.now (Name name ∷ Number8 slot ∷ At stage ∷ []) rest → ⊥} _ (λ none name slot stage rest h. none stage _ (tt, behind c.in_ok-slot.ensures.1 (behind c.in_ok-name.ensures.1 h.1))) c.in_err-stage.ensures)
