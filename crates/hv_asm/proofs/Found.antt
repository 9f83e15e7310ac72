-- An instruction that is found by a name and operands has them in the table.
use Rattle.std.proofs.Common.{◌≡◌, ◌⊎◌, ℕ, ◌<◌, ◌^◌, Bool, true, false, cond, List, [], ◌∷◌, Option, Some, None, refl, sym, subst, inl, inr}
use Rattle.std.specs.Prelude.{nat_eq, ℤ, pos, ◌&&◌, unsigned_abs}
use Rattle.std.specs.Cmp.Lexicographic.{pointwise}
use Rattle.std.specs.List.{AllByRecursion}
use Rattle.std.specs.Option.{option_or}
use Rattle.std.proofs.lemmas.Slice.Eq.{bytes_eq-Decides}
use Rattle.hv_exec.specs.Fields.{IsOffset, IsImmediate, HasFields, IsWellFormed}
use Rattle.hv_exec.specs.declared.inst.Inst.{Inst}
use Rattle.hv_asm.specs.declared.operand.Operand.TheVariants.{Register, Decimal, Based}
use Rattle.hv_asm.specs.declared.operand.Operands.{Operands}
use Rattle.hv_asm.specs.declared.operand.Operands.TheVariants.{Nothing, Two, Three}
use Rattle.hv_asm.specs.Candidates.{named, bare_instructions, register_instructions, immediate_instructions, branches, long_shifts, short_shifts, loads, stores, jumps, upper_instructions, csr_register_instructions, csr_immediate_instructions, fences}
use Rattle.hv_asm.specs.Reading.{HaveRegisters, all_as_read, HasSyntax}
use Rattle.hv_asm.specs.Forms.{of_immediate, of_branch, of_long_shift, of_short_shift, of_number, of_load, of_store, of_jump, of_upper, of_csr_register, of_csr_immediate, of_fence, instruction_of}
use Rattle.hv_asm.specs.Syntax.{syntax_of}
use Rattle.hv_asm.proofs.Ranges.{fits_12, is_immediate, fits_13, is_branch, fits_21, is_jump, fits_below, is_below}

-- an instruction has these operands, each within its field
record HasOperands (os : Operands) (i : Inst) : Type 0 where
  well_formed : IsWellFormed i
  operands_are : all_as_read (syntax_of i).operands ≡ os

-- each of some instructions does
abbrev AllHave : Operands → List Inst → Type 0
AllHave os is = AllByRecursion (HasOperands os) is

-- the first of some instructions, or one of those behind it, has the name
chosen : (name : List ℕ) (os : Operands) (first i : Inst) (other : Option Inst) → HasOperands os first → (other ≡ Some i → HasSyntax i name os) → (test : Bool) → pointwise nat_eq name (syntax_of first).name ≡ test → cond test (Some first) other ≡ Some i → HasSyntax i name os
chosen name os first i other has more true is h =
    let named_so : name ≡ (syntax_of first).name = (bytes_eq-Decides name (syntax_of first).name).0 is in
    let same : first ≡ i = cc in
    subst (λ j. HasSyntax j name os) same (record { well_formed = has.well_formed; name_is = sym named_so; operands_are = has.operands_are })
chosen name os first i other has more false is h = more h

-- an instruction that was found by its name has it
found_among : (name : List ℕ) (os : Operands) (is : List Inst) (i : Inst) → AllHave os is → named name is ≡ Some i → HasSyntax i name os
unfolding named
found_among name os [] i all h = absurd (cc)
found_among name os (first ∷ rest) i all h =
    chosen name os first i (named name rest) all.0 (found_among name os rest i all.1) (pointwise nat_eq name (syntax_of first).name) refl h

-- those without operands
bare_have : AllHave Nothing bare_instructions
unfolding IsWellFormed
bare_have = (
  record { well_formed = tt; operands_are = refl },
  (
    record { well_formed = tt; operands_are = refl },
    (
      record { well_formed = tt; operands_are = refl },
      (
        record { well_formed = tt; operands_are = refl },
        tt,
      ),
    ),
  ),
)

-- those of three registers
registers_have : (a b c : ℕ) → HasFields a b c 32 → AllHave (Three (Register a) (Register b) (Register c)) (register_instructions a b c)
unfolding IsWellFormed
registers_have a b c h = (
  record { well_formed = h; operands_are = refl },
  (
    record { well_formed = h; operands_are = refl },
    (
      record { well_formed = h; operands_are = refl },
      (
        record { well_formed = h; operands_are = refl },
        (
          record { well_formed = h; operands_are = refl },
          (
            record { well_formed = h; operands_are = refl },
            (
              record { well_formed = h; operands_are = refl },
              (
                record { well_formed = h; operands_are = refl },
                (
                  record { well_formed = h; operands_are = refl },
                  (
                    record { well_formed = h; operands_are = refl },
                    (
                      record { well_formed = h; operands_are = refl },
                      (
                        record { well_formed = h; operands_are = refl },
                        (
                          record { well_formed = h; operands_are = refl },
                          (
                            record { well_formed = h; operands_are = refl },
                            (
                              record { well_formed = h; operands_are = refl },
                              (
                                record { well_formed = h; operands_are = refl },
                                (
                                  record { well_formed = h; operands_are = refl },
                                  (
                                    record { well_formed = h; operands_are = refl },
                                    (
                                      record { well_formed = h; operands_are = refl },
                                      (
                                        record { well_formed = h; operands_are = refl },
                                        (
                                          record { well_formed = h; operands_are = refl },
                                          (
                                            record { well_formed = h; operands_are = refl },
                                            (
                                              record { well_formed = h; operands_are = refl },
                                              (
                                                record { well_formed = h; operands_are = refl },
                                                (
                                                  record { well_formed = h; operands_are = refl },
                                                  (
                                                    record { well_formed = h; operands_are = refl },
                                                    (
                                                      record { well_formed = h; operands_are = refl },
                                                      (
                                                        record { well_formed = h; operands_are = refl },
                                                        tt,
                                                      ),
                                                    ),
                                                  ),
                                                ),
                                              ),
                                            ),
                                          ),
                                        ),
                                      ),
                                    ),
                                  ),
                                ),
                              ),
                            ),
                          ),
                        ),
                      ),
                    ),
                  ),
                ),
              ),
            ),
          ),
        ),
      ),
    ),
  ),
)

-- those of an immediate
immediates_have : (a b : ℕ) (z : ℤ) → IsImmediate a b z → AllHave (Three (Register a) (Register b) (Decimal z)) (immediate_instructions a b z)
unfolding IsWellFormed
immediates_have a b z h = (
  record { well_formed = h; operands_are = refl },
  (
    record { well_formed = h; operands_are = refl },
    (
      record { well_formed = h; operands_are = refl },
      (
        record { well_formed = h; operands_are = refl },
        (
          record { well_formed = h; operands_are = refl },
          (
            record { well_formed = h; operands_are = refl },
            (
              record { well_formed = h; operands_are = refl },
              tt,
            ),
          ),
        ),
      ),
    ),
  ),
)

-- the branches
branches_have : (a b : ℕ) (z : ℤ) → (a < 32) × (b < 32) × IsOffset 13 z → AllHave (Three (Register a) (Register b) (Decimal z)) (branches a b z)
unfolding IsWellFormed
branches_have a b z h = (
  record { well_formed = h; operands_are = refl },
  (
    record { well_formed = h; operands_are = refl },
    (
      record { well_formed = h; operands_are = refl },
      (
        record { well_formed = h; operands_are = refl },
        (
          record { well_formed = h; operands_are = refl },
          (
            record { well_formed = h; operands_are = refl },
            tt,
          ),
        ),
      ),
    ),
  ),
)

-- the shifts by six bits
long_shifts_have : (a b c : ℕ) → HasFields a b c 64 → AllHave (Three (Register a) (Register b) (Decimal (pos c))) (long_shifts a b c)
unfolding IsWellFormed
long_shifts_have a b c h = (
  record { well_formed = h; operands_are = refl },
  (
    record { well_formed = h; operands_are = refl },
    (
      record { well_formed = h; operands_are = refl },
      tt,
    ),
  ),
)

-- the shifts by five bits
short_shifts_have : (a b c : ℕ) → HasFields a b c 32 → AllHave (Three (Register a) (Register b) (Decimal (pos c))) (short_shifts a b c)
unfolding IsWellFormed
short_shifts_have a b c h = (
  record { well_formed = h; operands_are = refl },
  (
    record { well_formed = h; operands_are = refl },
    (
      record { well_formed = h; operands_are = refl },
      tt,
    ),
  ),
)

-- the loads
loads_have : (a : ℕ) (z : ℤ) (b : ℕ) → IsImmediate a b z → AllHave (Two (Register a) (Based z b)) (loads a z b)
unfolding IsWellFormed
loads_have a z b h = (
  record { well_formed = h; operands_are = refl },
  (
    record { well_formed = h; operands_are = refl },
    (
      record { well_formed = h; operands_are = refl },
      (
        record { well_formed = h; operands_are = refl },
        (
          record { well_formed = h; operands_are = refl },
          (
            record { well_formed = h; operands_are = refl },
            (
              record { well_formed = h; operands_are = refl },
              (
                record { well_formed = h; operands_are = refl },
                tt,
              ),
            ),
          ),
        ),
      ),
    ),
  ),
)

-- the stores
stores_have : (a : ℕ) (z : ℤ) (b : ℕ) → IsImmediate b a z → AllHave (Two (Register a) (Based z b)) (stores a z b)
unfolding IsWellFormed
stores_have a z b h = (
  record { well_formed = h; operands_are = refl },
  (
    record { well_formed = h; operands_are = refl },
    (
      record { well_formed = h; operands_are = refl },
      (
        record { well_formed = h; operands_are = refl },
        tt,
      ),
    ),
  ),
)

-- the jump
jumps_have : (a : ℕ) (z : ℤ) → (a < 32) × IsOffset 21 z → AllHave (Two (Register a) (Decimal z)) (jumps a z)
unfolding IsWellFormed
jumps_have a z h = (
  record { well_formed = h; operands_are = refl },
  tt,
)

-- those of the upper twenty bits
uppers_have : (a n : ℕ) → (a < 32) × (n < 2 ^ 20) → AllHave (Two (Register a) (Decimal (pos n))) (upper_instructions a n)
unfolding IsWellFormed
uppers_have a n h = (
  record { well_formed = h; operands_are = refl },
  (
    record { well_formed = h; operands_are = refl },
    tt,
  ),
)

-- those of a CSR and two registers
csr_registers_have : (a n b : ℕ) → HasFields a b n (2 ^ 12) → AllHave (Three (Register a) (Decimal (pos n)) (Register b)) (csr_register_instructions a n b)
unfolding IsWellFormed
csr_registers_have a n b h = (
  record { well_formed = h; operands_are = refl },
  (
    record { well_formed = h; operands_are = refl },
    (
      record { well_formed = h; operands_are = refl },
      tt,
    ),
  ),
)

-- those of a CSR and a number
csr_immediates_have : (a n m : ℕ) → HasFields a m n (2 ^ 12) → AllHave (Three (Register a) (Decimal (pos n)) (Decimal (pos m))) (csr_immediate_instructions a n m)
unfolding IsWellFormed
csr_immediates_have a n m h = (
  record { well_formed = h; operands_are = refl },
  (
    record { well_formed = h; operands_are = refl },
    (
      record { well_formed = h; operands_are = refl },
      tt,
    ),
  ),
)

-- the fences
fences_have : (n a b : ℕ) → HasFields b a n (2 ^ 12) → AllHave (Three (Decimal (pos n)) (Register a) (Register b)) (fences n a b)
unfolding IsWellFormed
fences_have n a b h = (
  record { well_formed = h; operands_are = refl },
  (
    record { well_formed = h; operands_are = refl },
    tt,
  ),
)

-- what a choice of two gave
or_gives : {A : Type 0} (x y : Option A) (a : A) → option_or x y ≡ Some a → (x ≡ Some a) ⊎ (y ≡ Some a)
or_gives None y a h = inr h
or_gives (Some b) y a h = inl h

-- what was given behind a test
record Tested {A : Type 0} (test : Bool) (o : Option A) (a : A) : Type 0 where
  is : test ≡ true
  was : o ≡ Some a

-- what a test gave passed it
test_gives : {A : Type 0} (test : Bool) (o : Option A) (a : A) → cond test o None ≡ Some a → Tested test o a
test_gives true o a h = record { is = refl; was = h }
test_gives false o a h = absurd (cc)

-- two tests that hold together hold each
both_true : (one other : Bool) → (one && other) ≡ true → (one ≡ true) × (other ≡ true)
both_true true other h = (refl, h)
both_true false other h = absurd (cc)

-- a shift among those of a bound is one of the table
shift_sound : (bound : ℕ) (shifts : ℕ → ℕ → ℕ → List Inst) → ((a b c : ℕ) → HasFields a b c bound → AllHave (Three (Register a) (Register b) (Decimal (pos c))) (shifts a b c))
    → (name : List ℕ) (a b : ℕ) (z : ℤ) (i : Inst) → a < 32 → b < 32 → cond (fits_below bound z) (named name (shifts a b (unsigned_abs z))) None ≡ Some i → HasSyntax i name (Three (Register a) (Register b) (Decimal z))
shift_sound bound shifts have name a b z i x y h =
    let t = test_gives (fits_below bound z) (named name (shifts a b (unsigned_abs z))) i h in
    let below = is_below bound z t.is in
    let fits : HasFields a b (unsigned_abs z) bound = record { first_fits = x; second_fits = y; third_fits = below.less } in
    subst (λ (v : ℤ). HasSyntax i name (Three (Register a) (Register b) (Decimal v))) below.same
    (found_among name (Three (Register a) (Register b) (Decimal (pos (unsigned_abs z)))) (shifts a b (unsigned_abs z)) i (have a b (unsigned_abs z) fits) t.was)

-- so is each of two registers and a number
number_sound : (name : List ℕ) (a b : ℕ) (z : ℤ) (i : Inst) → a < 32 → b < 32 → of_number name a b z ≡ Some i → HasSyntax i name (Three (Register a) (Register b) (Decimal z))
number_sound name a b z i x y h =
    let os = Three (Register a) (Register b) (Decimal z) in
    elim (or_gives (of_immediate name a b z) (option_or (of_branch name a b z) (option_or (of_long_shift name a b z) (of_short_shift name a b z))) i h) [
      | inl one ↦
          let t = test_gives (fits_12 z) (named name (immediate_instructions a b z)) i one in
          let fits : IsImmediate a b z = record { first_fits = x; second_fits = y; immediate_fits = is_immediate z t.is } in
          found_among name os (immediate_instructions a b z) i (immediates_have a b z fits) t.was
      | inr more ↦ elim (or_gives (of_branch name a b z) (option_or (of_long_shift name a b z) (of_short_shift name a b z)) i more) [
        | inl two ↦
            let t = test_gives (fits_13 z) (named name (branches a b z)) i two in
            found_among name os (branches a b z) i (branches_have a b z (x, y, is_branch z t.is)) t.was
        | inr rest ↦ elim (or_gives (of_long_shift name a b z) (of_short_shift name a b z) i rest) [
          | inl three ↦ shift_sound 64 long_shifts long_shifts_have name a b z i x y three
          | inr four ↦ shift_sound 32 short_shifts short_shifts_have name a b z i x y four
        ]
      ]
    ]

-- so is a load and a store
based_sound : (name : List ℕ) (a : ℕ) (z : ℤ) (b : ℕ) (i : Inst) → a < 32 → b < 32 → option_or (of_load name a z b) (of_store name a z b) ≡ Some i → HasSyntax i name (Two (Register a) (Based z b))
based_sound name a z b i x y h =
    let os = Two (Register a) (Based z b) in
    elim (or_gives (of_load name a z b) (of_store name a z b) i h) [
      | inl one ↦
          let t = test_gives (fits_12 z) (named name (loads a z b)) i one in
          let fits : IsImmediate a b z = record { first_fits = x; second_fits = y; immediate_fits = is_immediate z t.is } in
          found_among name os (loads a z b) i (loads_have a z b fits) t.was
      | inr two ↦
          let t = test_gives (fits_12 z) (named name (stores a z b)) i two in
          let fits : IsImmediate b a z = record { first_fits = y; second_fits = x; immediate_fits = is_immediate z t.is } in
          found_among name os (stores a z b) i (stores_have a z b fits) t.was
    ]

-- so is a jump, and one of the upper twenty bits
register_sound : (name : List ℕ) (a : ℕ) (z : ℤ) (i : Inst) → a < 32 → option_or (of_jump name a z) (of_upper name a z) ≡ Some i → HasSyntax i name (Two (Register a) (Decimal z))
register_sound name a z i x h = elim (or_gives (of_jump name a z) (of_upper name a z) i h) [
  | inl one ↦
      let t = test_gives (fits_21 z) (named name (jumps a z)) i one in
      found_among name (Two (Register a) (Decimal z)) (jumps a z) i (jumps_have a z (x, is_jump z t.is)) t.was
  | inr two ↦
      let t = test_gives (fits_below 1048576 z) (named name (upper_instructions a (unsigned_abs z))) i two in
      let below = is_below 1048576 z t.is in
      subst (λ (v : ℤ). HasSyntax i name (Two (Register a) (Decimal v))) below.same
      (found_among name (Two (Register a) (Decimal (pos (unsigned_abs z)))) (upper_instructions a (unsigned_abs z)) i (uppers_have a (unsigned_abs z) (x, below.less)) t.was)
]

-- so is one of a CSR and two registers
csr_register_sound : (name : List ℕ) (a : ℕ) (z : ℤ) (b : ℕ) (i : Inst) → a < 32 → b < 32 → of_csr_register name a z b ≡ Some i → HasSyntax i name (Three (Register a) (Decimal z) (Register b))
csr_register_sound name a z b i x y h =
    let n = unsigned_abs z in
    let t = test_gives (fits_below 4096 z) (named name (csr_register_instructions a n b)) i h in
    let below = is_below 4096 z t.is in
    let fits : HasFields a b n (2 ^ 12) = record { first_fits = x; second_fits = y; third_fits = below.less } in
    subst (λ (v : ℤ). HasSyntax i name (Three (Register a) (Decimal v) (Register b))) below.same
    (found_among name (Three (Register a) (Decimal (pos n)) (Register b)) (csr_register_instructions a n b) i (csr_registers_have a n b fits) t.was)

-- so is one of a CSR and a number
csr_immediate_sound : (name : List ℕ) (a : ℕ) (z v : ℤ) (i : Inst) → a < 32 → of_csr_immediate name a z v ≡ Some i → HasSyntax i name (Three (Register a) (Decimal z) (Decimal v))
csr_immediate_sound name a z v i x h =
    let n = unsigned_abs z in
    let m = unsigned_abs v in
    let t = test_gives (fits_below 4096 z && fits_below 32 v) (named name (csr_immediate_instructions a n m)) i h in
    let both = both_true (fits_below 4096 z) (fits_below 32 v) t.is in
    let one = is_below 4096 z both.0 in
    let two = is_below 32 v both.1 in
    let fits : HasFields a m n (2 ^ 12) = record { first_fits = x; second_fits = two.less; third_fits = one.less } in
    subst (λ (w : ℤ). HasSyntax i name (Three (Register a) (Decimal w) (Decimal v))) one.same
    (subst (λ (w : ℤ). HasSyntax i name (Three (Register a) (Decimal (pos n)) (Decimal w))) two.same
    (found_among name (Three (Register a) (Decimal (pos n)) (Decimal (pos m))) (csr_immediate_instructions a n m) i (csr_immediates_have a n m fits) t.was))

-- so is a fence
fence_sound : (name : List ℕ) (z : ℤ) (a b : ℕ) (i : Inst) → a < 32 → b < 32 → of_fence name z a b ≡ Some i → HasSyntax i name (Three (Decimal z) (Register a) (Register b))
fence_sound name z a b i x y h =
    let n = unsigned_abs z in
    let t = test_gives (fits_below 4096 z) (named name (fences n a b)) i h in
    let below = is_below 4096 z t.is in
    let fits : HasFields b a n (2 ^ 12) = record { first_fits = y; second_fits = x; third_fits = below.less } in
    subst (λ (v : ℤ). HasSyntax i name (Three (Decimal v) (Register a) (Register b))) below.same
    (found_among name (Three (Decimal (pos n)) (Register a) (Register b)) (fences n a b) i (fences_have n a b fits) t.was)

-- the instruction of a name and operands has them in the table
pub sound : (name : List ℕ) (os : Operands) (i : Inst) → HaveRegisters os → instruction_of name os ≡ Some i → HasSyntax i name os
unfolding instruction_of
sound name Nothing i fit h = found_among name Nothing bare_instructions i bare_have h
sound name (Two (Register a) (Based z b)) i fit h = based_sound name a z b i fit.0 fit.1 h
sound name (Two (Register a) (Decimal z)) i fit h = register_sound name a z i fit.0 h
sound name (Three (Register a) (Register b) (Register c)) i fit h =
    let fits : HasFields a b c 32 = record { first_fits = fit.0; second_fits = fit.1; third_fits = fit.2 } in
    found_among name (Three (Register a) (Register b) (Register c)) (register_instructions a b c) i (registers_have a b c fits) h
sound name (Three (Register a) (Register b) (Decimal z)) i fit h = number_sound name a b z i fit.0 fit.1 h
sound name (Three (Register a) (Decimal z) (Register b)) i fit h = csr_register_sound name a z b i fit.0 fit.2 h
sound name (Three (Register a) (Decimal z) (Decimal v)) i fit h = csr_immediate_sound name a z v i fit.0 h
sound name (Three (Decimal z) (Register a) (Register b)) i fit h = fence_sound name z a b i fit.1 fit.2 h
sound name _ i fit h = absurd (cc)
