use Rattle.std.proofs.Common.{sym, ◌∙◌}
use Rattle.hv_dtlex.proofs.Blanks.{close_step}
use Rattle.hv_dtlex.proofs.blank.close_at.Goals as goal

pub loop-at-preserved : goal.loop-at-preserved
loop-at-preserved c =
    close_step c.args.text.now c.split_at.result.1.now c.loop-at.at c.loop-at-test.true c.split_at.ensures.back (sym c.starts_with.ensures.value ∙ c.if-starts_with.false) c.loop-at.invariant
