use Rattle.std.proofs.Common.{[], ◌∷◌, ◌++◌, ◌+◌, ap, ◌∙◌, arith, get_or}
use Rattle.hv_model.specs.Transcript.{registers_shown}
use Rattle.hv_shown.proofs.Lists.{generals_more}
use Rattle.hv_shown.proofs.looks.push_generals.Goals as goal

pub loop-place-preserved : goal.loop-place-preserved
loop-place-preserved c =
    c.in_ok-push_general.ensures
    ∙ (ap (λ to. to ++ registers_shown (c.loop-place.place + 1) (get_or c.args.values.now c.loop-place.place 0 ∷ [])) c.loop-place.invariant
    ∙ generals_more c.args.to.now c.args.values.now c.loop-place.place 0 (omega (arith, c.loop-place-test.true, c.told-values)))
