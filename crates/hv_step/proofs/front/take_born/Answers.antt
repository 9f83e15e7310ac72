use Rattle.std.proofs.Common.{ℕ, List, ◌∷◌, [], Some}
use Rattle.std.proofs.lemmas.Result.{err_from_is_err_and}
use Rattle.hv_kinds.specs.declared.generation.Generation.{Generation}
use Rattle.hv_data.specs.Data.{Born, HaveData}
use Rattle.hv_data.proofs.Composed.{because_more}
use Rattle.hv_step.proofs.front.take_born.Goals as goal

pub returns-in_err-generation : goal.returns-in_err-generation
returns-in_err-generation c =
    let p = err_from_is_err_and c.from_residual.result c.from_residual.ensures.1 in
    rw (p.1, p.2) (because_more {Q = (g : Generation) (rest : List (List ℕ)) → HaveData c.args.words.now (Born (Some g) ∷ []) rest → ⊥} _ (λ none g rest h. none (Some g) rest (h.0.0, h.1)) c.in_err-generation.ensures)
