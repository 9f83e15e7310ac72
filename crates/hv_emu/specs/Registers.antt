-- Bits of a register, and places of registers.
use Rattle.std.specs.Prelude.{ℕ, ◌-◌, ◌/◌, ◌%◌, ◌^◌, Bool, ◌&&◌, ◌==◌, nat_lt, nat_le, if◌then◌else◌, List, ◌++◌, take, replicate, Option, Some, None, bit_and, bit_or}

-- A bit of a word is set.
abbrev pub is_set : ℕ → ℕ → Bool
is_set word k = word / 2 ^ k % 2 == 1

-- The word with a bit set.
abbrev pub with_bit : ℕ → ℕ → ℕ
with_bit word k = bit_or word (2 ^ k)

-- The word with a bit clear.
abbrev pub without_bit : ℕ → ℕ → ℕ
without_bit word k = word - bit_and word (2 ^ k)

-- The word with a bit as given.
abbrev pub put_bit : ℕ → ℕ → Bool → ℕ
put_bit word k set = if set then with_bit word k else without_bit word k

-- Which of some registers stands at an offset: they begin at a base, a stride apart, and count from 0.
abbrev pub index_at : (base stride count offset : ℕ) → Option ℕ
index_at base stride count offset =
    if nat_le base offset && ((offset - base) % stride == 0) && nat_lt ((offset - base) / stride) count
    then Some ((offset - base) / stride)
    else None

-- A list with a value per context, for another number of contexts: each new context has the value after a reset.
abbrev pub resized : (contexts after_reset : ℕ) → List ℕ → List ℕ
resized contexts after_reset values = take contexts (values ++ replicate contexts after_reset)
