-- What a device does is computed from its state.
use Rattle.std.proofs.Common.{refl, ap}
use Rattle.std.proofs.lemmas.Bool.{true≢false}
use Rattle.hv_kinds.specs.declared.pins.Pins.{Pins}
use Rattle.hv_emu.specs.Device.{has_name, after_attach, after_reset, device_access, after_tick, line_of, pins_of}
use Rattle.hv_rules.proofs.laws.devices_move.Goals as goal

pub returns-clause-taken : goal.returns-clause-taken
unfolding has_name
returns-clause-taken c = (refl, refl)

pub returns-clause-left : goal.returns-clause-left
unfolding has_name
returns-clause-left c = refl

pub returns-clause-none : goal.returns-clause-none
unfolding has_name
returns-clause-none c = (refl, refl, refl)

pub returns-clause-built : goal.returns-clause-built
unfolding after_attach line_of pins_of
returns-clause-built c = (refl, refl)

pub returns-clause-store : goal.returns-clause-store
unfolding after_attach device_access line_of pins_of
returns-clause-store c = (refl, refl, refl)

pub returns-clause-pin : goal.returns-clause-pin
unfolding after_attach device_access pins_of
returns-clause-pin c = refl

pub returns-clause-other_pin : goal.returns-clause-other_pin
unfolding after_attach device_access pins_of
returns-clause-other_pin c = λ e. true≢false (ap (λ (pins : Pins). pins.soft) e)

pub returns-clause-tick : goal.returns-clause-tick
unfolding after_attach device_access after_tick line_of pins_of
returns-clause-tick c = (refl, refl)

pub returns-clause-drop : goal.returns-clause-drop
unfolding after_attach device_access line_of pins_of
returns-clause-drop c = (refl, refl, refl)

pub returns-clause-shelf : goal.returns-clause-shelf
unfolding after_attach device_access after_reset
returns-clause-shelf c = refl
