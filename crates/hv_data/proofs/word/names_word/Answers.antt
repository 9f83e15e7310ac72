use Rattle.std.proofs.Common.{refl, sym, ◌∙◌}
use Rattle.std.proofs.lemmas.Bool.{false≢true}
use Rattle.hv_data.proofs.Numerals.{differ_where_false}
use Rattle.hv_data.proofs.Listed.{names_of_parts, no_names_of_parts}
use Rattle.hv_data.proofs.word.names_word.Goals as goal

pub returns-then-not-are_listed_names : goal.returns-then-not-are_listed_names
returns-then-not-are_listed_names c =
    no_names_of_parts c.args.word.now c.deref.result.now (c.deref.ensures.value ∙ c.in_ok-names.ensures)
    (λ is. differ_where_false c.args.word.now c.as_slice.result.now c.if-eq.ensures (is ∙ sym c.as_slice.ensures)) (λ listed. false≢true (c.if-not-are_listed_names.ensures.1 listed))

pub returns : goal.returns
returns c =
    rw (c.from_vec.ensures, ← c.deref.ensures.value) (names_of_parts c.args.word.now c.deref.result.now (c.deref.ensures.value ∙ c.in_ok-names.ensures) (c.if-not-are_listed_names.ensures.0 refl))
