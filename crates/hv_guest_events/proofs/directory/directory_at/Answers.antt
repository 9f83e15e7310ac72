use Rattle.std.proofs.Common.{[], ◌∷◌, refl}
use Rattle.hv_event.specs.declared.event.CellId.TheVariants as component
use Rattle.hv_step.specs.declared.step.Step.TheVariants as step
use Rattle.hv_guest_events.proofs.Making.{made-as, ok-as}
use Rattle.hv_guest_events.proofs.directory.directory_at.Goals as goal

pub returns-in-Guests-clause-made : goal.returns-in-Guests-clause-made
returns-in-Guests-clause-made g c =
    let xs = component.Dir ∷ [] in
    ok-as g.E.Emulator.state c.guests_at.result c.args.step.now (step.Guests c.in-Guests.guests) xs xs c.args.parts.now c.args.parts.now c.in-Guests.is refl c.guests_at.ensures

pub returns-in-Name-clause-made : goal.returns-in-Name-clause-made
returns-in-Name-clause-made g c =
    let xs = component.Dir ∷ [] in
    ok-as g.E.Emulator.state c.name_at.result c.args.step.now (step.Name c.in-Name.name) xs xs c.args.parts.now c.name_at.new.parts c.in-Name.is refl c.name_at.ensures.made

pub returns-in-Stage-clause-made : goal.returns-in-Stage-clause-made
returns-in-Stage-clause-made g c =
    let xs = component.Dir ∷ [] in
    made-as g.E.Emulator.state c.args.step.now (step.Stage c.in-Stage.stage) xs xs c.stage_at.result c.args.parts.now c.stage_at.new.parts c.in-Stage.is refl c.stage_at.ensures
