use Rattle.std.proofs.Common.{◌≡◌, arith}
use Rattle.hv_data.proofs.Numerals.{same_number}
use Rattle.hv_data.proofs.word.number8_word.Goals as goal

pub returns-then-number-gt255 : goal.returns-then-number-gt255
returns-then-number-gt255 c = λ n is.
    let same : n ≡ c.in_ok-number.number = same_number c.args.word.now n c.in_ok-number.number (omega (arith, is.0), is.1) c.in_ok-number.ensures in
    omega (arith, is.0)
