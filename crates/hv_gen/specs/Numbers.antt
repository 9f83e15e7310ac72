-- The numbers that a program adds: a linear congruential generator.
use Rattle.std.specs.Prelude.{ℕ, zero, suc, ◌+◌, ◌*◌, ◌%◌, ◌^◌}

-- the number behind another one
abbrev pub next_number : ℕ → ℕ
next_number number = (1103515245 * number + 12345) % 2 ^ 31

-- the number so many places behind the first
abbrev pub number_at : ℕ → ℕ → ℕ
number_at first zero = first
number_at first (suc places) = next_number (number_at first places)
