-- The ranges of numbers, as tests and as facts.
use Rattle.std.proofs.Common.{◌≡◌, ℕ, ◌<◌, Bool, true, refl, arith}
use Rattle.std.specs.Prelude.{ℤ, pos, negsuc, unsigned_abs}
use Rattle.std.proofs.lemmas.Int.{ints}
use Rattle.std.proofs.lemmas.Bool.Decides.{nat_tests}
use Rattle.hv_exec.specs.Fields.{IsSigned, IsOffset}
use Rattle.hv_asm.specs.Forms.{is_within, is_even_within}

-- a number within these bounds has twelve bits
abbrev pub fits_12 : ℤ → Bool
fits_12 z = is_within (negsuc 2047) (pos 2048) z

-- twelve bits pass the test
pub immediate_fits : (z : ℤ) → IsSigned 12 z → fits_12 z ≡ true
immediate_fits z h = grind (arith, ints)

-- what passes it has twelve bits
pub is_immediate : (z : ℤ) → fits_12 z ≡ true → IsSigned 12 z
is_immediate z h = grind (arith, ints)

-- so has an even one thirteen
abbrev pub fits_13 : ℤ → Bool
fits_13 z = is_even_within (negsuc 4095) (pos 4096) z

-- thirteen bits pass the test
pub branch_fits : (z : ℤ) → IsOffset 13 z → fits_13 z ≡ true
branch_fits z h = grind (arith, ints, nat_tests)

-- what passes it has thirteen bits
pub is_branch : (z : ℤ) → fits_13 z ≡ true → IsOffset 13 z
is_branch z h = grind (arith, ints, nat_tests)

-- or twenty-one
abbrev pub fits_21 : ℤ → Bool
fits_21 z = is_even_within (negsuc 1048575) (pos 1048576) z

-- twenty-one bits pass the test
pub jump_fits : (z : ℤ) → IsOffset 21 z → fits_21 z ≡ true
jump_fits z h = grind (arith, ints, nat_tests)

-- what passes it has twenty-one bits
pub is_jump : (z : ℤ) → fits_21 z ≡ true → IsOffset 21 z
is_jump z h = grind (arith, ints, nat_tests)

-- a number below a bound
abbrev pub fits_below : ℕ → ℤ → Bool
fits_below bound z = is_within (pos 0) (pos bound) z

-- a natural number below a bound passes the test
pub below_fits : (bound n : ℕ) → n < bound → fits_below bound (pos n) ≡ true
below_fits bound n h = grind (arith, ints, nat_tests)

-- is a natural number
pub record IsBelow (bound : ℕ) (z : ℤ) : Type 0 where
  pub less : unsigned_abs z < bound
  pub same : pos (unsigned_abs z) ≡ z

-- what passes it is such a number
pub is_below : (bound : ℕ) (z : ℤ) → fits_below bound z ≡ true → IsBelow bound z
is_below bound (pos n) h = record { less = grind (arith, ints, nat_tests); same = refl }
is_below bound (negsuc n) h = absurd (cc)
