use Rattle.std.proofs.Common.{List, [], ◌∷◌, ◌++◌, refl, ap, ◌∙◌}
use Rattle.hv_model.specs.Origin.{origin_of}
use Rattle.hv_rounds.specs.declared.terminal.Terminal.{Terminal}
use Rattle.hv_rounds.proofs.Wholes.{opened-board}
use Rattle.hv_rounds.proofs.open.open_board.Goals as goal

pub returns : goal.returns
returns c = λ devices.
    let next = λ (x : Terminal) (xs : List Terminal). xs ++ x ∷ [] in
    let items =
    c.in_ok-push-4.ensures.items ∙ ap (next c.in_ok-fourth.fourth) (c.in_ok-push-3.ensures.items ∙ ap (next c.in_ok-third.third)
    (c.in_ok-push-2.ensures.items ∙ ap (next c.in_ok-second.second) (c.in_ok-push.ensures.items ∙ ap (next c.in_ok-first.first) c.new-terminals.ensures.items))) in
    opened-board (origin_of c.args.opening.now devices) _ c.in_ok-first.first c.in_ok-second.second c.in_ok-third.third c.in_ok-fourth.fourth items c.requires.files refl
    c.in_ok-first.ensures.session c.in_ok-first.ensures.new c.in_ok-second.ensures.session c.in_ok-second.ensures.new
    c.in_ok-third.ensures.session c.in_ok-third.ensures.new c.in_ok-fourth.ensures.session c.in_ok-fourth.ensures.new
