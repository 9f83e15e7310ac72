use Rattle.std.proofs.Common.{sym, ◌∙◌}
use Rattle.hv_dtlex.proofs.Strings.{bytes_step}
use Rattle.hv_dtlex.proofs.string.string_value.Goals as goal

pub loop-rest-preserved : goal.loop-rest-preserved
loop-rest-preserved c =
    rw c.in_ok-push.ensures.items
    (bytes_step c.args.text.now c.loop-rest.rest.now c.split_at.result.1.now c.loop-rest.bytes.items c.in-Some.byte c.in-Some.size (sym c.starts_with.ensures.value ∙ c.loop-rest-test.true) (sym c.piece.ensures.value ∙ c.in-Some.is) c.in-Some.ensures.some c.in-Some.ensures.within c.split_at.ensures.back c.loop-rest.invariant)
