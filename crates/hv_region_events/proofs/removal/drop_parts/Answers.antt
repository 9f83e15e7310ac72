use Rattle.std.proofs.Common.{[], ◌∷◌, ◌∙◌, sym, ap}
use Rattle.hv_event.specs.declared.event.CellId.TheVariants as component
use Rattle.hv_guest_steps.specs.Admission.{shown_by}
use Rattle.hv_region_steps.specs.Regions.{changed_row}
use Rattle.hv_rules.specs.Space.{alias_in}
use Rattle.hv_step.specs.declared.step.Step.TheVariants as step
use Rattle.hv_region_events.proofs.Made.{ok-as}
use Rattle.hv_region_events.proofs.removal.drop_parts.Goals as goal

pub returns-clause-made : goal.returns-clause-made
returns-clause-made g c =
    let drop = c.in-Drop.drop in
    let row = changed_row c.args.row (alias_in c.args.window) in
    ok-as g.E.Emulator.state c.drop_at.result c.args.step.now (step.Drop drop) drop.generation c.args.guest
    (λ guest. component.Shelf ∷ component.Space guest.slot ∷ component.Body guest.slot row ∷ []) c.args.parts.now c.drop_at.new.parts c.in-Drop.is
    (sym (ap shown_by c.in-Drop.is) ∙ c.requires.granted.shown) c.drop_at.ensures.made
