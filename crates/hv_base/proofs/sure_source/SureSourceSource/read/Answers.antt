use Rattle.std.proofs.Common.{ap, sym, drop, length, ◌≢◌, ◌∙◌, arith}
use Rattle.std.proofs.lemmas.Bool.{eqb-false}
use Rattle.hv_base.proofs.Known.{poured}
use Rattle.hv_base.specs.SureSource.{SureState}
use Rattle.hv_base.proofs.sure_source.SureSourceSource.read.Goals as goal

pub returns-clause-bytes : goal.returns-clause-bytes
returns-clause-bytes c =
    let left_is : length c.split_at.result.1.now ≢ 0 = eqb-false _ _ (sym c.is_empty.ensures ∙ c.if-is_empty.false) in
    let left = ap (λ (s : SureState). s.left) c.self.view_is in
    (omega (arith, c.copy_front-count.ensures.count), omega (arith, c.copy_front-count.ensures.count, c.copy_front-count.auto.into), sym left ∙ poured _ _ _ c.self.inside.at _ (c.split_at.ensures.back ∙ ap (drop c.self.inside.at) c.deref.ensures.value) c.copy_front-count.ensures.bytes)
