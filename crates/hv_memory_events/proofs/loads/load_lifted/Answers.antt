use Rattle.std.proofs.Common.{◌∷◌, refl}
use Rattle.hv_event.specs.declared.event.CellId.TheVariants as component
use Rattle.hv_rules.specs.Footprint.{reached_by}
use Rattle.hv_step.specs.declared.step.Step.TheVariants as step
use Rattle.hv_memory_events.proofs.Made.{ok-as}
use Rattle.hv_memory_events.proofs.loads.load_lifted.Goals as goal

pub returns-clause-made : goal.returns-clause-made
returns-clause-made g c =
    let load = c.args.load.now in
    ok-as g.E.Emulator.state c.load_at.result (step.Load load) (step.Load load) load.generation c.args.guest
    (λ guest. component.Files ∷ component.Space guest.slot ∷ reached_by guest c.args.window c.args.area) c.args.parts.now c.load_at.new.parts refl
    c.requires.granted.shown c.load_at.ensures.made
