use Rattle.std.proofs.Common.{length, ◌-◌, sym, ◌∙◌, arith}
use Rattle.hv_dtlex.proofs.Strings.{string_step}
use Rattle.hv_dtlex.proofs.string.string_len.Goals as goal

pub loop-rest-preserved : goal.loop-rest-preserved
loop-rest-preserved c = record {
  left = omega arith;
  same = string_step c.args.text.now c.loop-rest.rest.now c.split_at.result.1.now c.in_ok-size.field-0-0 c.in_ok-size.size
      (length c.args.text.now - length c.loop-rest.rest.now) (length c.args.text.now - length c.split_at.result.1.now)
      (sym c.starts_with.ensures.value ∙ c.loop-rest-test.true) (sym c.piece.ensures.value ∙ c.in_ok-size.was)
      c.in_ok-size.ensures.some c.in_ok-size.ensures.within c.split_at.ensures.back (omega (arith, c.loop-rest.invariant.left, c.in_ok-size.ensures.within)) c.loop-rest.invariant.same;
}
