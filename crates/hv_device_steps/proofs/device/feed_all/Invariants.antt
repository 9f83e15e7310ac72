use Rattle.std.proofs.Common.{◌≡◌, take}
use Rattle.hv_body.specs.Body.{seen}
use Rattle.hv_rules.specs.Body.{fed}
use Rattle.hv_device_steps.proofs.device.feed_all.Given as goal

abbrev pub invariant-loop-byte : goal.invariant-loop-byte
invariant-loop-byte g l =
    seen g.E.Emulator.state l.body ≡ fed (take l.byte-index l.bytes) (seen g.E.Emulator.state l.initial.body)
