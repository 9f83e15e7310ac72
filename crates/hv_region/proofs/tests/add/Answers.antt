use Rattle.std.proofs.Common.{◌≤◌, ◌≡◌, length, take_all, arith, sym, ap, ◌∙◌, subst, inl, inr}
use Rattle.std.specs.List.{All}
use Rattle.std.proofs.lemmas.Option.{slice_get_within, get_or_from_slice_get, slice_get_cases}
use Rattle.std.proofs.lemmas.List.Elements.{All-more}
use Rattle.hv_region.specs.declared.window.Window.{Window}
use Rattle.hv_region.proofs.Places.{at_most_all, nowhere}
use Rattle.hv_region.proofs.tests.add.Goals as goal

pub overflow_add-place : goal.overflow_add-place
overflow_add-place c =
    omega (arith, slice_get_within c.args.windows.now c.others.place c.in-Some.there (sym c.in-Some.ensures.at), at_most_all c.args.windows.now c.at.ensures.rules)

pub others-smaller : goal.others-smaller
others-smaller c =
    omega (arith, slice_get_within c.args.windows.now c.others.place c.in-Some.there (sym c.in-Some.ensures.at))

pub others-preserved : goal.others-preserved
others-preserved c =
    let is = get_or_from_slice_get c.args.windows.now c.others.place c.in-Some.there nowhere (sym c.in-Some.ensures.at) in
    All-more (λ there. there.owner ≡ c.args.window.owner → ⊥) c.args.windows.now c.others.place nowhere (slice_get_within c.args.windows.now c.others.place c.in-Some.there (sym c.in-Some.ensures.at)) c.others.invariant
    (λ same. c.if-there-window.false (sym (ap (λ (w : Window). w.owner) is) ∙ same))

pub add-requires-clause-free : goal.add-requires-clause-free
add-requires-clause-free c =
    let past : length c.args.windows.now ≤ c.others.place =
    elim ((slice_get_cases c.args.windows.now c.others.place).1) [
      | inl found ↦ absurd (cc (found.2, c.in_default.ensures.at))
      | inr past ↦ past.0
    ] in
    subst (All (λ there. there.owner ≡ c.args.window.owner → ⊥)) (take_all c.others.place c.args.windows.now past) c.others.invariant
