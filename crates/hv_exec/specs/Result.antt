-- The result of each arithmetic instruction, by the RISC-V unprivileged manual, RV64I and the M extension.
use Rattle.std.specs.Prelude.{ℕ, ◌%◌, ◌^◌, pos, ◌*ℤ◌, Bool, nat_lt, if◌then◌else◌, bit_and, bit_or, bit_xor}
use Rattle.hv_exec.specs.Numbers.{signed, sign_extended}
use Rattle.hv_exec.specs.Arithmetic.{sum, difference, product, high_half, shifted_left, shifted_right, shifted_right_signed, is_less, quotient, remainder, quotient_unsigned, remainder_unsigned}
use Rattle.hv_exec.specs.declared.operation.Alu.{Alu}
use Rattle.hv_exec.specs.declared.operation.Alu.TheVariants.{Add, Subtract, ShiftLeft, Less, LessUnsigned, ExclusiveOr, ShiftRight, ShiftRightSigned, Or, And, Multiply, MultiplyHigh, MultiplyHighMixed, MultiplyHighUnsigned, Divide, DivideUnsigned, Remain, RemainUnsigned, AddWord, SubtractWord, ShiftLeftWord, ShiftRightWord, ShiftRightSignedWord, MultiplyWord, DivideWord, DivideUnsignedWord, RemainWord, RemainUnsignedWord}

-- 1 where a test holds, else 0
abbrev pub truth : Bool → ℕ
truth test = if test then 1 else 0

-- the signed reading of a result of the lowest 32 bits, at 64 bits
abbrev pub of_words : (ℕ → ℕ → ℕ) → ℕ → ℕ → ℕ
of_words result a b = sign_extended 32 (result (a % 2 ^ 32) (b % 2 ^ 32))

-- the result of two words
unfoldable pub result_of : Alu → ℕ → ℕ → ℕ
result_of Add a b = sum 64 a b
result_of Subtract a b = difference 64 a b
result_of ShiftLeft a b = shifted_left 64 a (b % 64)
result_of Less a b = truth (is_less 64 a b)
result_of LessUnsigned a b = truth (nat_lt a b)
result_of ExclusiveOr a b = bit_xor a b
result_of ShiftRight a b = shifted_right a (b % 64)
result_of ShiftRightSigned a b = shifted_right_signed 64 a (b % 64)
result_of Or a b = bit_or a b
result_of And a b = bit_and a b
result_of Multiply a b = product 64 a b
result_of MultiplyHigh a b = high_half (signed 64 a *ℤ signed 64 b)
result_of MultiplyHighMixed a b = high_half (signed 64 a *ℤ pos b)
result_of MultiplyHighUnsigned a b = high_half (pos a *ℤ pos b)
result_of Divide a b = quotient 64 a b
result_of DivideUnsigned a b = quotient_unsigned 64 a b
result_of Remain a b = remainder 64 a b
result_of RemainUnsigned a b = remainder_unsigned a b
result_of AddWord a b = of_words (λ a b. sum 32 a b) a b
result_of SubtractWord a b = of_words (λ a b. difference 32 a b) a b
result_of ShiftLeftWord a b = of_words (λ a b. shifted_left 32 a (b % 32)) a b
result_of ShiftRightWord a b = of_words (λ a b. shifted_right a (b % 32)) a b
result_of ShiftRightSignedWord a b = of_words (λ a b. shifted_right_signed 32 a (b % 32)) a b
result_of MultiplyWord a b = of_words (λ a b. product 32 a b) a b
result_of DivideWord a b = of_words (λ a b. quotient 32 a b) a b
result_of DivideUnsignedWord a b = of_words (λ a b. quotient_unsigned 32 a b) a b
result_of RemainWord a b = of_words (λ a b. remainder 32 a b) a b
result_of RemainUnsignedWord a b = of_words (λ a b. remainder_unsigned a b) a b
