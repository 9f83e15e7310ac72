use Rattle.std.proofs.Common.{◌∙◌, ap, sym, ◌++◌, ◌∷◌, [], map, take_all}
use Rattle.hv_listing.specs.declared.window.ListedWindow.{ListedWindow}
use Rattle.hv_rules.specs.Space.{listed}
use Rattle.hv_guest_steps.proofs.Told.{past_all, told_next}
use Rattle.hv_guest_steps.proofs.listing.listed_windows.Goals as goal

pub others-preserved : goal.others-preserved
others-preserved c =
    c.in_ok-push.ensures.items
    ∙ (ap (λ (x : ListedWindow). c.others.list.items ++ x ∷ []) c.listed.ensures
    ∙ told_next listed c.args.windows.now c.others.place c.in-Some.window c.others.list.items (sym c.in-Some.ensures.at) c.others.invariant)

pub returns : goal.returns
returns c =
    c.from_vec.ensures
    ∙ (c.others.invariant ∙ ap (map listed) (take_all c.others.place c.args.windows.now (past_all c.args.windows.now c.others.place (sym c.in_default.ensures.at))))
