-- Words of k bits as numbers, by the RISC-V unprivileged manual.
use Rattle.std.specs.Prelude.{ℕ, ◌-◌, ◌/◌, ◌%◌, ◌^◌, ℤ, pos, negsuc, ◌+ℤ◌, neg_ℤ, nat_lt, if◌then◌else◌}

-- the two's complement reading of k bits: n, less 2^k where n is 2^(k-1) or more
abbrev pub signed : ℕ → ℕ → ℤ
signed k n = if nat_lt n (2 ^ (k - 1)) then pos n else (pos n +ℤ neg_ℤ (pos (2 ^ k)))

-- the number from 0 to 2^k - 1 that differs from z by a multiple of 2^k
abbrev pub modulo : ℕ → ℤ → ℕ
modulo k (pos n) = n % 2 ^ k
modulo k (negsuc n) = 2 ^ k - 1 - n % 2 ^ k

-- the word of 64 bits with the signed reading that k bits have
abbrev pub sign_extended : ℕ → ℕ → ℕ
sign_extended k n = modulo 64 (signed k n)

-- z divided by d, rounded down
abbrev pub floor_quotient : ℤ → ℕ → ℤ
floor_quotient (pos n) d = pos (n / d)
floor_quotient (negsuc n) d = negsuc (n / d)
