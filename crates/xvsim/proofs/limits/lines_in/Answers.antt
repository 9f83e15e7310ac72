use Rattle.std.proofs.Common.{arith}
use Rattle.xvsim.proofs.Counts.{few_lines}
use Rattle.xvsim.proofs.limits.lines_in.Goals as goal

pub returns-clause-small : goal.returns-clause-small
returns-clause-small c = omega (arith, few_lines c.args.text.now)
