use Rattle.std.proofs.Common.{sym, ◌∙◌}
use Rattle.std.proofs.lemmas.Result.{err_from_is_err_and}
use Rattle.hv_data.proofs.Numerals.{differ_where_false}
use Rattle.hv_data.proofs.Composed.{because_more, no_generation, no_dot, no_slot, no_birth}
use Rattle.hv_data.proofs.word.generation_word.Goals as goal

pub returns-in_default-word_at : goal.returns-in_default-word_at
returns-in_default-word_at c =
    no_generation c.args.word.now c.in-Some.numbers.now c.in-Some.ensures (λ hyphen. differ_where_false c.args.word.now c.as_slice.result.now c.if-eq.ensures (hyphen ∙ sym c.as_slice.ensures))
    (no_dot c.in-Some.numbers.now c.in_default-word_at.ensures)

pub returns-in_err-slot : goal.returns-in_err-slot
returns-in_err-slot c =
    let p = err_from_is_err_and c.from_residual.result c.from_residual.ensures.1 in
    rw (p.1, p.2) (because_more _ (λ none. no_generation c.args.word.now c.in-Some.numbers.now c.in-Some.ensures (λ hyphen. differ_where_false c.args.word.now c.as_slice.result.now c.if-eq.ensures (hyphen ∙ sym c.as_slice.ensures))
    (no_slot c.in-Some.numbers.now c.in-Some-word_at.slot.now c.in-Some-word_at.birth.now c.in-Some-word_at.ensures.0 c.in-Some-word_at.ensures.1 none)) c.in_err-slot.ensures)

pub returns-in_err-birth : goal.returns-in_err-birth
returns-in_err-birth c =
    let p = err_from_is_err_and c.from_residual-in_err-birth.result c.from_residual-in_err-birth.ensures.1 in
    rw (p.1, p.2) (because_more _ (λ none. no_generation c.args.word.now c.in-Some.numbers.now c.in-Some.ensures (λ hyphen. differ_where_false c.args.word.now c.as_slice.result.now c.if-eq.ensures (hyphen ∙ sym c.as_slice.ensures))
    (no_birth c.in-Some.numbers.now c.in-Some-word_at.slot.now c.in-Some-word_at.birth.now c.in-Some-word_at.ensures.0 c.in-Some-word_at.ensures.1 none)) c.in_err-birth.ensures)
