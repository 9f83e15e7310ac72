use Rattle.std.proofs.Common.{◌≡◌, ℕ, ◌<◌, get_or, length}
use Rattle.hv_body.specs.Body.{seen}
use Rattle.hv_kinds.specs.declared.pins.Pins.{Pins}
use Rattle.hv_rules.specs.Body.{pins_in}
use Rattle.hv_text.specs.declared.limits.TheConstants.{GUEST_VCPUS}
use Rattle.hv_signals.proofs.signals.Signals.of.Given as goal

abbrev pub invariant-loop-vcpu : goal.invariant-loop-vcpu
invariant-loop-vcpu g l = record {
  long : length l.pins ≡ GUEST_VCPUS;
  each : (k : ℕ) (d : Pins) → k < l.vcpu → get_or l.pins k d ≡ pins_in (seen g.E.Emulator.state l.body) k;
}
