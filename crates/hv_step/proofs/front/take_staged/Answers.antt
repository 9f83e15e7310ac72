use Rattle.std.proofs.Common.{ℕ, List, ◌∷◌, []}
use Rattle.std.specs.Prelude.{Option}
use Rattle.std.proofs.lemmas.Result.{err_from_is_err_and}
use Rattle.hv_kinds.specs.declared.stage.Stage.{Stage}
use Rattle.hv_kinds.specs.declared.generation.Generation.{Generation}
use Rattle.hv_data.specs.Data.{Name, At, Born, HaveData}
use Rattle.hv_data.proofs.Composed.{because_more}
use Rattle.hv_data.proofs.DataLemmas.{behind}
use Rattle.hv_step.proofs.front.take_staged.Goals as goal

pub returns-in_err-region : goal.returns-in_err-region
returns-in_err-region c =
    let p = err_from_is_err_and c.from_residual-in_err-region.result c.from_residual-in_err-region.ensures.1 in
    rw (p.1, p.2) (because_more {Q = (n r : List ℕ) (s : Stage) (g : Option Generation) (rest : List (List ℕ)) → HaveData c.args.words.now (Name n ∷ Name r ∷ At s ∷ Born g ∷ []) rest → ⊥} _ (λ none n r s g rest h. none r _ (h.0.1.0, behind c.in_ok-name.ensures.1 h.1)) c.in_err-region.ensures)

pub returns-in_err-stage : goal.returns-in_err-stage
returns-in_err-stage c =
    let p = err_from_is_err_and c.from_residual-in_err-stage.result c.from_residual-in_err-stage.ensures.1 in
    rw (p.1, p.2) (because_more {Q = (n r : List ℕ) (s : Stage) (g : Option Generation) (rest : List (List ℕ)) → HaveData c.args.words.now (Name n ∷ Name r ∷ At s ∷ Born g ∷ []) rest → ⊥} _ (λ none n r s g rest h. none s _ (h.0.1.1.0, behind c.in_ok-region.ensures.1 (behind c.in_ok-name.ensures.1 h.1))) c.in_err-stage.ensures)

pub returns-in_err-generation : goal.returns-in_err-generation
returns-in_err-generation c =
    let p = err_from_is_err_and c.from_residual-in_err-generation.result c.from_residual-in_err-generation.ensures.1 in
    rw (p.1, p.2) (because_more {Q = (n r : List ℕ) (s : Stage) (g : Option Generation) (rest : List (List ℕ)) → HaveData c.args.words.now (Name n ∷ Name r ∷ At s ∷ Born g ∷ []) rest → ⊥} _ (λ none n r s g rest h. none g _ (h.0.1.1.1.0, behind c.in_ok-stage.ensures.1 (behind c.in_ok-region.ensures.1 (behind c.in_ok-name.ensures.1 h.1)))) c.in_err-generation.ensures)
