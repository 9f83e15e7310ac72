use Rattle.std.proofs.Common.{ap, ◌∙◌, ◌≡◌, ◌++◌, ◌∷◌, [], List, ℕ}
use Rattle.hv_plan.proofs.Pieces.{string_more, strings_all}
use Rattle.hv_plan.proofs.region.strings_in.Goals as goal

pub pieces-preserved : goal.pieces-preserved
pieces-preserved c =
    let text = c.in-Some.text.now in
    let pushed : c.push.new.self ≡ c.pieces.strings ++ text ∷ [] = c.in_ok-push.ensures.ok ∙ ap (λ (t : List ℕ). c.pieces.strings ++ t ∷ []) (c.from_vec.ensures ∙ c.in_ok-from_slice.ensures.items) in
    string_more c.args.value.now c.pieces.rest.now text c.in-Some.behind.now c.pieces.strings c.push.new.self c.pieces.invariant c.in-Some.ensures.0 c.in-Some.ensures.1 pushed

pub returns : goal.returns
returns c = strings_all c.args.value.now c.pieces.rest.now c.pieces.strings c.pieces.invariant c.in_default.ensures
