use Rattle.std.proofs.Common.{sym, ◌∙◌}
use Rattle.std.specs.Fmt.{decimal}
use Rattle.hv_data.proofs.Numerals.{decimal_back, no_number_where_refused, no_number_where_other, differ}
use Rattle.hv_data.proofs.word.number_word.Goals as goal

pub returns-in_default : goal.returns-in_default
returns-in_default c = no_number_where_refused decimal decimal_back c.args.word.now c.in_default.field-0 (sym c.in_default.ensures)

pub returns-then-ne : goal.returns-then-ne
returns-then-ne c =
    no_number_where_other decimal decimal_back c.args.word.now c.in-Ok.number (sym c.in-Ok.ensures)
    (λ is. differ c.as_bytes.result.now c.args.word.now c.if-ne.ensures (c.as_bytes.ensures.value ∙ c.in_ok-text.ensures.ok ∙ is))
