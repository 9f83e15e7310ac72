-- The interrupt pins of a hart as its register mip shows them (Privileged Architecture, 3.1.9).
use Rattle.std.specs.Prelude.{ℕ, ◌+◌, ◌^◌, if◌then◌else◌}
use Rattle.hv_kinds.specs.declared.pins.Pins.{Pins}

-- mip: bit 3 is the software pin, bit 7 the timer pin and bit 11 the external pin
abbrev pub pending_bits : Pins → ℕ
pending_bits pins = (if pins.soft then 2 ^ 3 else 0) + (if pins.timer then 2 ^ 7 else 0) + (if pins.ext then 2 ^ 11 else 0)
