-- Used by `image_of`, proofs and private functions alone.
-- The instruction of a name and operands.
use Rattle.std.specs.Prelude.{ℕ, ◌%◌, ◌==◌, ℤ, pos, negsuc, int_le, int_lt, unsigned_abs, Bool, ◌&&◌, if◌then◌else◌, List, Option, None}
use Rattle.std.specs.Option.{option_or}
use Rattle.hv_exec.specs.declared.inst.Inst.{Inst}
use Rattle.hv_asm.specs.declared.operand.Operand.TheVariants.{Register, Decimal, Based}
use Rattle.hv_asm.specs.declared.operand.Operands.{Operands}
use Rattle.hv_asm.specs.declared.operand.Operands.TheVariants.{Nothing, Two, Three}
use Rattle.hv_asm.specs.Candidates.{named, bare_instructions, register_instructions, immediate_instructions, branches, long_shifts, short_shifts, loads, stores, jumps, upper_instructions, csr_register_instructions, csr_immediate_instructions, fences}

-- whether a number is at least the one and below the other
abbrev pub is_within : ℤ → ℤ → ℤ → Bool
is_within low above value = int_le low value && int_lt value above

-- whether a number is even and within these bounds
abbrev pub is_even_within : ℤ → ℤ → ℤ → Bool
is_even_within low above value = is_within low above value && (unsigned_abs value % 2 == 0)

-- the instruction of a name and three registers
abbrev pub of_registers : List ℕ → ℕ → ℕ → ℕ → Option Inst
of_registers name rd rs1 rs2 = named name (register_instructions rd rs1 rs2)

-- the instruction of a name, two registers and an immediate
abbrev pub of_immediate : List ℕ → ℕ → ℕ → ℤ → Option Inst
of_immediate name rd rs1 value =
    if is_within (negsuc 2047) (pos 2048) value then named name (immediate_instructions rd rs1 value) else None

-- the branch of a name, two registers and an offset
abbrev pub of_branch : List ℕ → ℕ → ℕ → ℤ → Option Inst
of_branch name rs1 rs2 value =
    if is_even_within (negsuc 4095) (pos 4096) value then named name (branches rs1 rs2 value) else None

-- the shift of a name, two registers and an amount of six bits
abbrev pub of_long_shift : List ℕ → ℕ → ℕ → ℤ → Option Inst
of_long_shift name rd rs1 value =
    if is_within (pos 0) (pos 64) value then named name (long_shifts rd rs1 (unsigned_abs value)) else None

-- the shift of a name, two registers and an amount of five bits
abbrev pub of_short_shift : List ℕ → ℕ → ℕ → ℤ → Option Inst
of_short_shift name rd rs1 value =
    if is_within (pos 0) (pos 32) value then named name (short_shifts rd rs1 (unsigned_abs value)) else None

-- the instruction of a name, two registers and a number
abbrev pub of_number : List ℕ → ℕ → ℕ → ℤ → Option Inst
of_number name one two value =
    option_or (of_immediate name one two value) (option_or (of_branch name one two value)
    (option_or (of_long_shift name one two value) (of_short_shift name one two value)))

-- the load of a name, a register and an offset from a register
abbrev pub of_load : List ℕ → ℕ → ℤ → ℕ → Option Inst
of_load name rd offset rs1 =
    if is_within (negsuc 2047) (pos 2048) offset then named name (loads rd offset rs1) else None

-- the store of a name, a register and an offset from a register
abbrev pub of_store : List ℕ → ℕ → ℤ → ℕ → Option Inst
of_store name rs2 offset rs1 =
    if is_within (negsuc 2047) (pos 2048) offset then named name (stores rs2 offset rs1) else None

-- the jump of a name, a register and an offset
abbrev pub of_jump : List ℕ → ℕ → ℤ → Option Inst
of_jump name rd value =
    if is_even_within (negsuc 1048575) (pos 1048576) value then named name (jumps rd value) else None

-- the instruction of a name, a register and the upper twenty bits
abbrev pub of_upper : List ℕ → ℕ → ℤ → Option Inst
of_upper name rd value =
    if is_within (pos 0) (pos 1048576) value then named name (upper_instructions rd (unsigned_abs value)) else None

-- the instruction of a name, a register, the number of a CSR and a register
abbrev pub of_csr_register : List ℕ → ℕ → ℤ → ℕ → Option Inst
of_csr_register name rd csr rs1 =
    if is_within (pos 0) (pos 4096) csr then named name (csr_register_instructions rd (unsigned_abs csr) rs1) else None

-- the instruction of a name, a register, the number of a CSR and a number of five bits
abbrev pub of_csr_immediate : List ℕ → ℕ → ℤ → ℤ → Option Inst
of_csr_immediate name rd csr value =
    if is_within (pos 0) (pos 4096) csr && is_within (pos 0) (pos 32) value
    then named name (csr_immediate_instructions rd (unsigned_abs csr) (unsigned_abs value)) else None

-- the fence of a name, bits 31 to 20, rs1 and rd
abbrev pub of_fence : List ℕ → ℤ → ℕ → ℕ → Option Inst
of_fence name fields rs1 rd =
    if is_within (pos 0) (pos 4096) fields then named name (fences (unsigned_abs fields) rs1 rd) else None

-- the instruction of a name and operands
unfoldable pub instruction_of : List ℕ → Operands → Option Inst
instruction_of name Nothing = named name bare_instructions
instruction_of name (Two (Register one) (Based offset base)) = option_or (of_load name one offset base) (of_store name one offset base)
instruction_of name (Two (Register one) (Decimal value)) = option_or (of_jump name one value) (of_upper name one value)
instruction_of name (Three (Register one) (Register two) (Register three)) = of_registers name one two three
instruction_of name (Three (Register one) (Register two) (Decimal value)) = of_number name one two value
instruction_of name (Three (Register one) (Decimal csr) (Register two)) = of_csr_register name one csr two
instruction_of name (Three (Register one) (Decimal csr) (Decimal value)) = of_csr_immediate name one csr value
instruction_of name (Three (Decimal fields) (Register one) (Register two)) = of_fence name fields one two
instruction_of name _ = None
