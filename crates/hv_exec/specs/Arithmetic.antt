-- The results of the arithmetic instructions at words of k bits, by the RISC-V unprivileged manual.
use Rattle.std.specs.Prelude.{ℕ, ◌+◌, ◌-◌, ◌*◌, ◌/◌, ◌%◌, ◌^◌, ℤ, Bool, ◌&&◌, ◌==◌, if◌then◌else◌, int_lt, int_div, int_rem}
use Rattle.hv_exec.specs.Numbers.{signed, modulo, floor_quotient}

-- the lowest k bits of a sum
abbrev pub sum : ℕ → ℕ → ℕ → ℕ
sum k a b = (a + b) % 2 ^ k

-- the lowest k bits of a difference, for b of k bits
abbrev pub difference : ℕ → ℕ → ℕ → ℕ
difference k a b = (a + (2 ^ k - b)) % 2 ^ k

-- the lowest k bits of a product
abbrev pub product : ℕ → ℕ → ℕ → ℕ
product k a b = (a * b) % 2 ^ k

-- the bits of a product above the lowest 64
abbrev pub high_half : ℤ → ℕ
high_half z = modulo 64 (floor_quotient z (2 ^ 64))

-- a times a power of two, in k bits
abbrev pub shifted_left : ℕ → ℕ → ℕ → ℕ
shifted_left k a by = (a * 2 ^ by) % 2 ^ k

-- a divided by a power of two, rounded down
abbrev pub shifted_right : ℕ → ℕ → ℕ
shifted_right a by = a / 2 ^ by

-- the same of the signed reading, so that the sign stays
abbrev pub shifted_right_signed : ℕ → ℕ → ℕ → ℕ
shifted_right_signed k a by = modulo k (floor_quotient (signed k a) (2 ^ by))

-- the signed reading of one is less than that of the other
abbrev pub is_less : ℕ → ℕ → ℕ → Bool
is_less k a b = int_lt (signed k a) (signed k b)

-- the least signed number by -1, whose quotient has no word
abbrev pub overflows : ℕ → ℕ → ℕ → Bool
overflows k a b = (a == 2 ^ (k - 1)) && (b == 2 ^ k - 1)

-- rounded toward zero; all ones by zero, and the dividend at an overflow
abbrev pub quotient : ℕ → ℕ → ℕ → ℕ
quotient k a b =
    if b == 0 then 2 ^ k - 1
    else if overflows k a b then a
    else modulo k (int_div (signed k a) (signed k b))

-- with the sign of the dividend; the dividend by zero, and 0 at an overflow
abbrev pub remainder : ℕ → ℕ → ℕ → ℕ
remainder k a b =
    if b == 0 then a
    else if overflows k a b then 0
    else modulo k (int_rem (signed k a) (signed k b))

-- rounded down; all ones by zero
abbrev pub quotient_unsigned : ℕ → ℕ → ℕ → ℕ
quotient_unsigned k a b = if b == 0 then 2 ^ k - 1 else a / b

-- the dividend by zero
abbrev pub remainder_unsigned : ℕ → ℕ → ℕ
remainder_unsigned a b = if b == 0 then a else a % b
