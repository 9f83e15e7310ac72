use Rattle.std.proofs.Common.{◌≡◌, ◌≤◌, ◌-◌, [], length, take, vec_len}
use Rattle.hv_body.specs.Body.{seen, shown}
use Rattle.hv_rules.specs.Body.{output_of}
use Rattle.hv_device_steps.proofs.device.bytes_sent.Given as goal

abbrev pub invariant-sent : goal.invariant-sent
invariant-sent g l =
    (l.bytes.items ≡ take (vec_len l.bytes) (shown output_of [] (seen g.E.Emulator.state l.body)))
    × (vec_len l.bytes ≤ length (shown output_of [] (seen g.E.Emulator.state l.body)))

abbrev pub decreases-sent : goal.decreases-sent
decreases-sent g l = length (shown output_of [] (seen g.E.Emulator.state l.body)) - vec_len l.bytes
