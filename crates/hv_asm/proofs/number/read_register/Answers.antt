use Rattle.std.proofs.Common.{◌≡◌, length, get_or, sym}
use Rattle.hv_asm.proofs.Numbers.{not_read, too_large, zero_in_front, named_register, some_digits}
use Rattle.hv_asm.proofs.number.read_register.Goals as goal
use Rattle.hv_asm.proofs.number.read_register.Goals.{else-digits-gt1-via-then-digits-gt1+else-digits-eq48, else-digits-gt1-via-else-digits-gt1}

pub returns-in_err-number : goal.returns-in_err-number
returns-in_err-number c =
    rw c.from_residual-in_err-number.ensures (λ n small is.
    not_read c.args.text.now c.in_ok-digits.digits.now n c.in_ok-digits.ensures (sym c.in_err-number.ensures.value) small is)

pub returns-then-number-ge32 : goal.returns-then-number-ge32
returns-then-number-ge32 c = λ n small is.
    too_large c.args.text.now c.in_ok-digits.digits.now c.in_ok-number.number n c.in_ok-digits.ensures (sym c.in_ok-number.ensures.value) c.if-number-ge32.true small is

pub returns-then-digits-eq48 : goal.returns-then-digits-eq48
returns-then-digits-eq48 c = λ n small is.
    zero_in_front c.args.text.now c.in_ok-digits.digits.now n c.in_ok-digits.ensures c.if-digits-gt1.true c.if-digits-eq48.true small is

pub returns : goal.returns
returns c =
    let text = c.args.text.now in
    let digits = c.in_ok-digits.digits.now in
    let n = c.in_ok-number.number in
    let plain : get_or digits 0 0 ≡ 48 → length digits ≡ 1 = elim c.else-digits-gt1.branch [
      | else-digits-gt1-via-then-digits-gt1+else-digits-eq48 w ↦ λ zero_first. absurd (w.if-digits-eq48.false zero_first)
      | else-digits-gt1-via-else-digits-gt1 w ↦ λ zero_first. some_digits digits n (sym c.in_ok-number.ensures.value) w.if-digits-gt1.false
    ] in
    (c.if-number-ge32.false, named_register text digits n c.in_ok-digits.ensures (sym c.in_ok-number.ensures.value) plain)
