use Rattle.std.proofs.Common.{ℕ, List, ◌++◌, sym, ap, ◌∙◌}
use Rattle.hv_data.specs.Text.{address_text}
use Rattle.hv_data.proofs.Numerals.{address_back, no_number_where_refused, no_number_where_other, differ}
use Rattle.hv_data.proofs.word.address_word.Goals as goal

pub returns-in_default : goal.returns-in_default
returns-in_default c = no_number_where_refused address_text address_back c.args.word.now c.in_default.field-0 (sym c.in_default.ensures)

pub returns-then-ne : goal.returns-then-ne
returns-then-ne c =
    no_number_where_other address_text address_back c.args.word.now c.in-Ok.number (sym c.in-Ok.ensures)
    (λ is. differ c.as_slice.result.now c.args.word.now c.if-ne.ensures (c.as_slice.ensures ∙ c.in_ok-push_address.ensures.ok ∙ ap (λ (t : List ℕ). t ++ address_text c.in-Ok.number) (c.from_vec-text.ensures ∙ c.new.ensures.items) ∙ is))
