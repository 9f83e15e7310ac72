use Rattle.std.proofs.Common.{length}
use Rattle.hv_signals.proofs.signals.+turned_bits.Given as goal

abbrev pub decreases-turned_bits : goal.decreases-turned_bits
decreases-turned_bits l = length l.before.now
