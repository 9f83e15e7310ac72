use Rattle.std.proofs.Common.{◌==◌, sym, arith}
use Rattle.std.proofs.lemmas.Option.{slice_get_within}
use Rattle.hv_region.proofs.Places.{at_most_all}
use Rattle.hv_body.proofs.WindowLemmas.{any_at, any_end, any_more, eqb_false, eqb_true}
use Rattle.hv_body.proofs.window.has_window.Goals as goal

pub returns-then-there-owner : goal.returns-then-there-owner
returns-then-there-owner c =
    sym (any_at (λ there. there.owner == c.args.owner) c.args.windows.now c.others.place c.in-Some.there (sym c.in-Some.ensures.at) (eqb_true c.in-Some.there.owner c.args.owner c.if-there-owner.true))

pub overflow_add-place : goal.overflow_add-place
overflow_add-place c =
    omega (arith, slice_get_within c.args.windows.now c.others.place c.in-Some.there (sym c.in-Some.ensures.at), at_most_all c.args.windows.now c.in-Some.ensures.rules)

pub others-smaller : goal.others-smaller
others-smaller c = omega (arith, slice_get_within c.args.windows.now c.others.place c.in-Some.there (sym c.in-Some.ensures.at))

pub others-preserved : goal.others-preserved
others-preserved c =
    any_more (λ there. there.owner == c.args.owner) c.args.windows.now c.others.place c.in-Some.there (sym c.in-Some.ensures.at) c.others.invariant (eqb_false c.in-Some.there.owner c.args.owner c.if-there-owner.false)

pub returns : goal.returns
returns c = sym (any_end (λ there. there.owner == c.args.owner) c.args.windows.now c.others.place (sym c.in_default.ensures.at) c.others.invariant)
