use Rattle.std.proofs.Common.{[], ◌∷◌, ◌∙◌, sym, ap}
use Rattle.hv_event.specs.declared.event.CellId.TheVariants as component
use Rattle.hv_guest_steps.specs.Admission.{shown_by}
use Rattle.hv_step.specs.declared.step.Step.TheVariants as step
use Rattle.hv_region_events.proofs.Made.{made-as}
use Rattle.hv_region_events.proofs.removal.not_live_parts.Goals as goal

pub returns-clause-made : goal.returns-clause-made
returns-clause-made g c =
    let drop = c.in-Drop.drop in
    made-as g.E.Emulator.state c.args.step.now (step.Drop drop) drop.generation c.args.guest (λ guest. component.Shelf ∷ component.Space guest.slot ∷ [])
    c.not_live_at.result c.args.parts.now c.args.parts.now c.in-Drop.is (sym (ap shown_by c.in-Drop.is) ∙ c.requires.granted.shown) c.not_live_at.ensures.made
