use Rattle.std.proofs.Common.{◌∙◌, sym, ap}
use Rattle.hv_guest_steps.specs.Admission.{shown_by}
use Rattle.hv_step.specs.declared.step.Step.TheVariants as step
use Rattle.hv_guest_events.proofs.Granting.{shown-space}
use Rattle.hv_guest_events.proofs.Making.{ok-as}
use Rattle.hv_guest_events.proofs.listing.listed_at.Goals as goal

pub returns : goal.returns
returns g c =
    let shown = sym (ap shown_by c.in-Regions.is) ∙ c.requires.granted.shown in
    ok-as g.E.Emulator.state c.regions_at.result c.args.step.now (step.Regions c.in-Regions.regions) _ _ c.args.parts.now c.args.parts.now c.in-Regions.is
    (shown-space c.in-Regions.regions.generation c.args.guest shown) c.regions_at.ensures
