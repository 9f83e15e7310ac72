use Rattle.std.proofs.Common.{◌∙◌}
use Rattle.hv_uart.proofs.Bits.{has-flag}
use Rattle.hv_uart.proofs.ier.Ier.enables_transmitter_empty.Goals as goal

pub returns : goal.returns
returns c = c.contains.ensures tt ∙ has-flag c.args.self.0 1
