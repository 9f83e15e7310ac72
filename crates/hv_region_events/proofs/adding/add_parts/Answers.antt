use Rattle.std.proofs.Common.{[], ◌∷◌, ◌∙◌, sym, ap}
use Rattle.hv_event.specs.declared.event.CellId.TheVariants as component
use Rattle.hv_guest_steps.specs.Admission.{shown_by}
use Rattle.hv_region_steps.specs.Regions.{changed_row}
use Rattle.hv_step.specs.declared.step.Step.TheVariants as step
use Rattle.hv_region_events.proofs.Made.{ok-as}
use Rattle.hv_region_events.proofs.adding.add_parts.Goals as goal

pub returns-clause-made : goal.returns-clause-made
returns-clause-made g c =
    let add = c.in-Add.add in
    let row = changed_row c.args.at.row c.args.target in
    ok-as g.E.Emulator.state c.add_at.result c.args.step.now (step.Add add) add.generation c.args.at.guest
    (λ guest. component.Shelf ∷ component.Space guest.slot ∷ component.Body guest.slot row ∷ []) c.args.parts.now c.add_at.new.parts c.in-Add.is
    (sym (ap shown_by c.in-Add.is) ∙ c.requires.granted.shown) c.add_at.ensures.made
