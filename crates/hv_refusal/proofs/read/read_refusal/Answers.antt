use Rattle.std.proofs.Common.{◌≡◌, sym, ap, ◌∙◌}
use Rattle.std.specs.Prelude.{Some, None}
use Rattle.hv_refusal.specs.Reading.{bare_spelled, telling_spelled}
use Rattle.hv_refusal.proofs.Refusals.{refusal_read}
use Rattle.hv_refusal.proofs.read.read_refusal.Goals as goal

pub returns : goal.returns
returns c =
    let bare : bare_spelled c.as_slice.result.now ≡ None = cc (c.in_default-find_bare.ensures.spelled, c.in_default-find_bare.is) in
    let telling : telling_spelled c.as_slice-2.result.now ≡ Some c.in-Some-find_telling.name = cc (c.in-Some-find_telling.ensures.spelled, c.in-Some-find_telling.is) in
    refusal_read c.args.words.now c.in-Some.rest.now c.in-Some.first.now c.in-Some-find_telling.name c.read_arguments.result c.in-Some.ensures.cases.0
    (ap bare_spelled (sym c.as_slice.ensures) ∙ bare) (ap telling_spelled (sym c.as_slice-2.ensures) ∙ telling) (sym c.as_slice-2.ensures ∙ c.in-Some-find_telling.ensures.word) c.read_arguments.ensures
