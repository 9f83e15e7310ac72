-- The signals of a body, as values that can be kept and compared.
use Rattle.std.specs.Prelude.{Bool, List, [], ◌∷◌, map}
use Rattle.std.specs.List.{range_with_len}
use Rattle.hv_kinds.specs.declared.pins.Pins.{Pins}
use Rattle.hv_rules.specs.Body.{BodyValue, have_turned, line_in, pins_in}
use Rattle.hv_text.specs.declared.limits.TheConstants.{GUEST_VCPUS}
use Rattle.hv_signals.specs.declared.signals.Signals.{Signals}

-- The signals of a body: the level of its line, and the levels of the pins of each VCPU of the guest.
abbrev pub signals_of : BodyValue → Signals
signals_of body = record { line = line_in body; pins = map (pins_in body) (range_with_len 0 GUEST_VCPUS) }

-- For each VCPU, whether its pins are others before and after.
abbrev pub turned : (before after : List Pins) → List Bool
turned [] after = []
turned (one ∷ before) [] = []
turned (one ∷ before) (other ∷ after) = have_turned one other ∷ turned before after
