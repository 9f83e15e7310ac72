use Rattle.std.proofs.Common.{Some, ◌∙◌, sym, ap, subst}
use Rattle.hv_parts.specs.declared.part.Part.TheVariants as part
use Rattle.hv_memory_events.proofs.Areas.{IsThere, shown-there}
use Rattle.hv_memory_events.proofs.reached.area_in.Goals as goal

pub returns-clause-there : goal.returns-clause-there
returns-clause-there g c =
    let board = c.args.board.now in
    let body = c.body-body.result.now in
    let window = c.args.window in
    let there =
    shown-there g.E.Emulator.state board body window c.args.address c.args.size c.plan-plan.ensures.rules
    (λ live is. c.requires.sound.areas c.args.guest.slot window.target live c.requires.slot c.requires.row (c.body-body.ensures ∙ ap (λ b. Some (part.Body b)) is))
    in
    (subst (IsThere board c.args.size) (sym c.area_shown.ensures.area) there).area

pub returns-clause-bytes : goal.returns-clause-bytes
returns-clause-bytes g c =
    let board = c.args.board.now in
    let body = c.body-body.result.now in
    let window = c.args.window in
    let there =
    shown-there g.E.Emulator.state board body window c.args.address c.args.size c.plan-plan.ensures.rules
    (λ live is. c.requires.sound.areas c.args.guest.slot window.target live c.requires.slot c.requires.row (c.body-body.ensures ∙ ap (λ b. Some (part.Body b)) is))
    in
    (subst (IsThere board c.args.size) (sym c.area_shown.ensures.area) there).bytes
