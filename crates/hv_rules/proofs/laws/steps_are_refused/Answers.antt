-- A timer is no serial port.
use Rattle.std.proofs.Common.{refl}
use Rattle.hv_emu.specs.Device.{after_attach, is_serial}
use Rattle.hv_rules.proofs.laws.steps_are_refused.Goals as goal

pub returns-clause-not_serial : goal.returns-clause-not_serial
unfolding after_attach is_serial
returns-clause-not_serial c = (refl, refl)
