use Rattle.std.proofs.Common.{arith}
use Rattle.hv_text.proofs.Numbers.{each_digit}
use Rattle.hv_dtlex.proofs.Numbers.{cell_of_is}
use Rattle.hv_dtlex.proofs.digits.cell_of.Goals as goal

pub cell_value-requires-clause-each : goal.cell_value-requires-clause-each
cell_value-requires-clause-each c =
    each_digit c.args.radix c.args.digits.now (omega (arith, c.digits_len-len.ensures.front))

pub returns-clause-value : goal.returns-clause-value
returns-clause-value c =
    cell_of_is c.args.radix c.args.digits.now _ (omega (arith, c.digits_len-len.ensures.front)) (omega (arith, c.digits_len-len.ensures.front)) c.cell_value.ensures
