use Rattle.std.proofs.Common.{◌∙◌}
use Rattle.std.proofs.lemmas.Nat.{and_mask}
use Rattle.bitflags.specs.Sets.{known_from}
use Rattle.hv_uart.proofs.mcr.Mcr.written.Goals as goal

pub returns : goal.returns
unfolding known_from
returns c = c.from_bits_truncate.ensures tt ∙ and_mask c.args.value 5
