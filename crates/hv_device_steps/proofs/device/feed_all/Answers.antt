use Rattle.std.proofs.Common.{ℕ, ◌<◌, List, ap, ◌∙◌, arith, length, get_or, take_all}
use Rattle.hv_body.specs.Body.{on_device, seen}
use Rattle.hv_emu.specs.Device.{DevState, after_feed}
use Rattle.hv_rules.specs.Body.{BodyValue, fed}
use Rattle.hv_device_steps.proofs.BodyLemmas.{fed_more}
use Rattle.hv_device_steps.proofs.device.feed_all.Goals as goal

pub loop-byte-preserved : goal.loop-byte-preserved
loop-byte-preserved g c =
    let more : c.loop-byte.byte-index < length c.args.bytes.now = omega arith in
    c.feed.ensures
    ∙ (ap
    (λ (body : BodyValue).
    on_device (λ (device : DevState). after_feed device (get_or c.args.bytes.now c.loop-byte.byte-index 0)) body)
    c.loop-byte.invariant
    ∙ fed_more (seen g.E.Emulator.state c.args.body.now) c.args.bytes.now c.loop-byte.byte-index more)

pub returns : goal.returns
returns g c =
    c.loop-byte.invariant
    ∙ ap (λ (bytes : List ℕ). fed bytes (seen g.E.Emulator.state c.args.body.now))
    (take_all c.loop-byte.byte-index c.args.bytes.now (omega arith))
