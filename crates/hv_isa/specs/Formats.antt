-- The fields of an instruction word and its formats, by the RISC-V unprivileged manual.
use Rattle.std.specs.Prelude.{ℕ, ◌+◌, ◌*◌, ◌/◌, ◌%◌, ◌^◌, ℤ}
use Rattle.hv_exec.specs.Numbers.{signed}
use Rattle.hv_exec.specs.declared.inst.Inst.{Inst}

-- so many bits of a word, from a bit on
abbrev pub bits : ℕ → ℕ → ℕ → ℕ
bits word low width = word / 2 ^ low % 2 ^ width

-- the number of the register that is written
abbrev pub rd : ℕ → ℕ
rd word = bits word 7 5

-- the number of the first register that is read
abbrev pub rs1 : ℕ → ℕ
rs1 word = bits word 15 5

-- the number of the second register that is read
abbrev pub rs2 : ℕ → ℕ
rs2 word = bits word 20 5

-- the immediate of twelve bits of a load, a JALR or a sum
abbrev pub i_immediate : ℕ → ℤ
i_immediate word = signed 12 (bits word 20 12)

-- the same of a store, in two parts
abbrev pub s_immediate : ℕ → ℤ
s_immediate word = signed 12 (bits word 25 7 * 2 ^ 5 + bits word 7 5)

-- the offset of a branch, each bit at its worth
abbrev pub b_immediate : ℕ → ℤ
b_immediate word =
    signed 13 (bits word 31 1 * 2 ^ 12 + bits word 7 1 * 2 ^ 11 + bits word 25 6 * 2 ^ 5 + bits word 8 4 * 2)

-- the offset of a jump, each bit at its worth
abbrev pub j_immediate : ℕ → ℤ
j_immediate word =
    signed 21 (bits word 31 1 * 2 ^ 20 + bits word 12 8 * 2 ^ 12 + bits word 20 1 * 2 ^ 11 + bits word 21 10 * 2)

-- three registers
abbrev pub r_type : (ℕ → ℕ → ℕ → Inst) → ℕ → Inst
r_type inst word = inst (rd word) (rs1 word) (rs2 word)

-- two registers and an immediate
abbrev pub i_type : (ℕ → ℕ → ℤ → Inst) → ℕ → Inst
i_type inst word = inst (rd word) (rs1 word) (i_immediate word)

-- two registers that are read, and an immediate
abbrev pub s_type : (ℕ → ℕ → ℤ → Inst) → ℕ → Inst
s_type inst word = inst (rs1 word) (rs2 word) (s_immediate word)

-- two registers that are read, and the offset of a branch
abbrev pub b_type : (ℕ → ℕ → ℤ → Inst) → ℕ → Inst
b_type inst word = inst (rs1 word) (rs2 word) (b_immediate word)

-- a register and the upper twenty bits
abbrev pub u_type : (ℕ → ℕ → Inst) → ℕ → Inst
u_type inst word = inst (rd word) (bits word 12 20)

-- a register and the offset of a jump
abbrev pub j_type : (ℕ → ℤ → Inst) → ℕ → Inst
j_type inst word = inst (rd word) (j_immediate word)

-- a shift amount of six bits
abbrev pub long_shift_type : (ℕ → ℕ → ℕ → Inst) → ℕ → Inst
long_shift_type inst word = inst (rd word) (rs1 word) (bits word 20 6)

-- a shift amount of five bits
abbrev pub short_shift_type : (ℕ → ℕ → ℕ → Inst) → ℕ → Inst
short_shift_type inst word = inst (rd word) (rs1 word) (bits word 20 5)

-- bits 31 to 20 as they are, and an immediate of five bits in the place of rs1 or rs1 itself
abbrev pub field_type : (ℕ → ℕ → ℕ → Inst) → ℕ → Inst
field_type inst word = inst (rd word) (rs1 word) (bits word 20 12)
