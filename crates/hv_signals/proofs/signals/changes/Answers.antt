use Rattle.std.proofs.Common.{length, ◌≤◌, arith}
use Rattle.hv_signals.proofs.Bits.{turned_fits}
use Rattle.hv_signals.proofs.signals.changes.Goals as goal

pub turned_bits-requires : goal.turned_bits-requires
turned_bits-requires c = let few : length c.args.before.pins ≤ 8 = omega arith in turned_fits c.args.before.pins c.args.after.pins few
