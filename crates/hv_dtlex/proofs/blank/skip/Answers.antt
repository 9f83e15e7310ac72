use Rattle.std.proofs.Common.{arith}
use Rattle.hv_dtlex.proofs.Blanks.{behind_passed, behind_last}
use Rattle.hv_dtlex.proofs.blank.skip.Goals as goal

pub loop-size-preserved : goal.loop-size-preserved
loop-size-preserved c = record {
  len = c.blank_len-size-in-loop-size.ensures.len;
  within = c.blank_len-size-in-loop-size.ensures.within;
  left = omega arith;
  same = behind_passed c.args.text.now c.loop-size.rest.now c.split_at.result.1.now c.loop-size.size c.loop-size.invariant.len c.loop-size-test.true c.split_at.ensures.back c.loop-size.invariant.same;
}

pub returns-clause-rest : goal.returns-clause-rest
returns-clause-rest c =
    behind_last c.args.text.now c.loop-size.rest.now c.loop-size.size c.loop-size.invariant.len c.loop-size-test.false c.loop-size.invariant.same
