use Rattle.std.proofs.Common.{ℕ, take, sym, ap, subst, ◌∙◌}
use Rattle.std.specs.Str.Parse.{AllDigits}
use Rattle.hv_dtlex.proofs.Numbers.{front_each}
use Rattle.hv_dtlex.proofs.digits.front_digits.Goals as goal

pub returns-clause-each : goal.returns-clause-each
returns-clause-each c =
    let front = c.split_at.result.0.now in
    subst (AllDigits c.args.radix) (sym (c.split_at-2.ensures.front ∙ ap (λ (n : ℕ). take n front) c.digits_len.ensures.front)) (front_each c.args.radix front)
