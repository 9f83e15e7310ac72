use Rattle.std.proofs.Common.{◌∷◌, refl}
use Rattle.hv_event.specs.declared.event.CellId.TheVariants as component
use Rattle.hv_rules.specs.Footprint.{reached_by}
use Rattle.hv_step.specs.declared.step.Step.TheVariants as step
use Rattle.hv_memory_events.proofs.Made.{ok-as}
use Rattle.hv_memory_events.proofs.looks.mem_lifted.Goals as goal

pub returns : goal.returns
returns g c =
    let look = c.args.look.now in
    ok-as g.E.Emulator.state c.mem_at.result (step.Mem look) (step.Mem look) look.generation c.args.guest
    (λ guest. component.Space guest.slot ∷ reached_by guest c.args.window c.args.area) c.args.parts.now c.args.parts.now refl c.requires.granted.shown
    c.mem_at.ensures
