use Rattle.std.proofs.Common.{arith, ap, ◌∙◌}
use Rattle.std.specs.Char.{digit_value}
use Rattle.hv_text.proofs.Numbers.{passes}
use Rattle.hv_text.proofs.number.digits_value.Goals as goal

pub returns-in_err-checked_mul : goal.returns-in_err-checked_mul
returns-in_err-checked_mul c =
    let p = passes c.args.radix c.loop-byte.value c.loop-byte.byte-index c.args.digits.now c.loop-byte-test.true c.loop-byte.invariant.each (omega arith) in
    rw c.from_residual-in_err-checked_mul.ensures (λ lt. c.in_err-checked_mul.ensures (omega (arith, p, c.loop-byte.invariant.total)))

pub returns-in_err-value : goal.returns-in_err-value
returns-in_err-value c =
    let p = passes c.args.radix c.loop-byte.value c.loop-byte.byte-index c.args.digits.now c.loop-byte-test.true c.loop-byte.invariant.each (omega arith) in
    rw c.from_residual-in_err-value.ensures (λ lt. c.in_err-value.ensures (omega (arith, p, c.loop-byte.invariant.total, c.in_ok-checked_mul.ensures.1, c.in_ok-digit.ensures.value.1 ∙ ap digit_value c.from.ensures)))
