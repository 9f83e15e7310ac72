use Rattle.std.proofs.Common.{◌≡◌, ◌<◌, length, arith}
use Rattle.std.proofs.lemmas.Bool.Decides.{nat_tests}
use Rattle.hv_text.specs.Number.{digits_front}
use Rattle.hv_text.proofs.Numbers.{each_digit, front_all}
use Rattle.xvsim.proofs.words.read_small.Goals as goal

pub returns-then-digits_len-digits : goal.returns-then-digits_len-digits
returns-then-digits_len-digits c = λ number writes.
    let front = c.digits_len.ensures.front in
    let short = c.if-digits_len-digits.true in
    let whole = front_all 10 c.args.digits.now writes.numeral.1 in
    omega (arith, front, short, whole)

pub digits_value-requires-clause-each : goal.digits_value-requires-clause-each
digits_value-requires-clause-each c =
    let front = c.digits_len.ensures.front in
    let within = c.digits_len.ensures.within in
    let long = c.if-digits_len-digits.false in
    each_digit 10 c.args.digits.now (omega (arith, front, within, long))

pub returns-in-Ok : goal.returns-in-Ok
returns-in-Ok c =
    let front = c.digits_len.ensures.front in
    let within = c.digits_len.ensures.within in
    let long = c.if-digits_len-digits.false in
    let value = c.in_ok-value.ensures.1 in
    let number = c.in-Ok.ensures.1 in
    let below = c.in-Ok.ensures.0 in
    record {
      numeral = (grind (arith, nat_tests, c.if-is_empty.ensures), each_digit 10 c.args.digits.now (omega (arith, front, within, long)));
      value = cc (value, number);
      small = omega (arith, below, number);
    }
