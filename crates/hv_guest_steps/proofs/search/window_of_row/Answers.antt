use Rattle.std.proofs.Common.{sym, arith}
use Rattle.std.proofs.lemmas.Option.{slice_get_within}
use Rattle.hv_body.proofs.WindowLemmas.{eqb_false, eqb_true}
use Rattle.hv_region.proofs.Places.{at_most_all}
use Rattle.hv_rules.specs.Space.{is_of}
use Rattle.hv_guest_steps.proofs.Searches.{found_here, found_later, found_nowhere}
use Rattle.hv_guest_steps.proofs.search.window_of_row.Goals as goal

pub returns-then-window-row : goal.returns-then-window-row
returns-then-window-row c =
    sym (found_here (is_of c.args.row) c.args.windows.now c.others.place c.in-Some.window (sym c.in-Some.ensures.at)
    (eqb_true c.in-Some.window.owner c.args.row c.if-window-row.true) c.others.invariant)

pub overflow_add-place : goal.overflow_add-place
overflow_add-place c =
    omega (arith, slice_get_within c.args.windows.now c.others.place c.in-Some.window (sym c.in-Some.ensures.at), at_most_all c.args.windows.now c.in-Some.ensures.rules)

pub others-smaller : goal.others-smaller
others-smaller c = omega (arith, slice_get_within c.args.windows.now c.others.place c.in-Some.window (sym c.in-Some.ensures.at))

pub others-preserved : goal.others-preserved
others-preserved c =
    found_later (is_of c.args.row) c.args.windows.now c.others.place c.in-Some.window (sym c.in-Some.ensures.at)
    (eqb_false c.in-Some.window.owner c.args.row c.if-window-row.false) c.others.invariant

pub returns : goal.returns
returns c = sym (found_nowhere (is_of c.args.row) c.args.windows.now c.others.place (sym c.in_default.ensures.at) c.others.invariant)
