use Rattle.std.proofs.Common.{◌∙◌, sym, ap}
use Rattle.hv_guest_steps.specs.Admission.{shown_by}
use Rattle.hv_step.specs.declared.step.Step.TheVariants as step
use Rattle.hv_guest_events.proofs.Granting.{shown-body}
use Rattle.hv_guest_events.proofs.Making.{made-as, ok-as}
use Rattle.hv_guest_events.proofs.devices.device_at.Goals as goal

pub returns-in-Devreset-clause-made : goal.returns-in-Devreset-clause-made
returns-in-Devreset-clause-made g c =
    let shown = sym (ap shown_by c.in-Devreset.is) ∙ c.requires.granted.shown in
    made-as g.E.Emulator.state c.args.step.now (step.Devreset c.in-Devreset.reset) _ _ c.devreset_at.result c.args.parts.now c.devreset_at.new.parts c.in-Devreset.is
    (shown-body c.in-Devreset.reset.generation c.args.guest c.args.row shown) c.devreset_at.ensures.made

pub returns-in-Feed-clause-made : goal.returns-in-Feed-clause-made
returns-in-Feed-clause-made g c =
    let shown = sym (ap shown_by c.in-Feed.is) ∙ c.requires.granted.shown in
    made-as g.E.Emulator.state c.args.step.now (step.Feed c.in-Feed.feed) _ _ c.feed_at.result c.args.parts.now c.feed_at.new.parts c.in-Feed.is
    (shown-body c.in-Feed.feed.generation c.args.guest c.args.row shown) c.feed_at.ensures.made

pub returns-in-Output-clause-made : goal.returns-in-Output-clause-made
returns-in-Output-clause-made g c =
    let shown = sym (ap shown_by c.in-Output.is) ∙ c.requires.granted.shown in
    ok-as g.E.Emulator.state c.output_at.result c.args.step.now (step.Output c.in-Output.output) _ _ c.args.parts.now c.args.parts.now c.in-Output.is
    (shown-body c.in-Output.output.generation c.args.guest c.args.row shown) c.output_at.ensures.made
