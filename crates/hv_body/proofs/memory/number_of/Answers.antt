use Rattle.std.proofs.Common.{arith}
use Rattle.byteorder.specs.Numbers.{little_from-lt}
use Rattle.hv_body.proofs.memory.number_of.Goals as goal

pub returns-clause-fits : goal.returns-clause-fits
returns-clause-fits c = rw c.read_uint.ensures (little_from-lt 0 c.args.size c.args.bytes.now (λ k. omega (arith, c.type_inv.bytes k)))
