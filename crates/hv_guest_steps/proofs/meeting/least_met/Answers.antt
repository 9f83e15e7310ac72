use Rattle.std.proofs.Common.{sym, arith}
use Rattle.std.proofs.lemmas.Option.{slice_get_within}
use Rattle.hv_body.specs.Windows.{meets}
use Rattle.hv_region.proofs.Places.{at_most_all}
use Rattle.hv_guest_steps.proofs.Meetings.{least_last, least_next, window_at_place}
use Rattle.hv_guest_steps.proofs.meeting.least_met.Goals as goal

pub lesser_met-least-requires-clause-there : goal.lesser_met-least-requires-clause-there
lesser_met-least-requires-clause-there c =
    (window_at_place c.args.windows.now c.others.place c.in-Some.there c.in-Some.ensures.rules (sym c.in-Some.ensures.at)).range

pub overflow_add-place : goal.overflow_add-place
overflow_add-place c =
    omega (arith, slice_get_within c.args.windows.now c.others.place c.in-Some.there (sym c.in-Some.ensures.at), at_most_all c.args.windows.now c.in-Some.ensures.rules)

pub others-smaller : goal.others-smaller
others-smaller c = omega (arith, slice_get_within c.args.windows.now c.others.place c.in-Some.there (sym c.in-Some.ensures.at))

pub others-preserved : goal.others-preserved
others-preserved c =
    least_next (meets c.args.window) c.args.windows.now c.others.place c.others.least c.in-Some.there c.lesser_met-least.result (sym c.in-Some.ensures.at)
    c.lesser_met-least.ensures c.others.invariant

pub returns : goal.returns
returns c =
    least_last (meets c.args.window) c.args.windows.now c.others.place c.others.least (sym c.in_default.ensures.at) c.others.invariant
