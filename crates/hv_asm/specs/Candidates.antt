-- Used by `image_of`, proofs and private functions alone.
-- The instructions of each form of operands, and the one of them that has a name.
use Rattle.std.specs.Prelude.{ℕ, ℤ, nat_eq, if◌then◌else◌, List, [], ◌∷◌, Option, Some, None}
use Rattle.std.specs.Cmp.Lexicographic.{pointwise}
use Rattle.hv_exec.specs.declared.inst.Inst.{Inst}
use Rattle.hv_exec.specs.declared.inst.Inst.TheVariants.{Lui, Auipc, Jal, Jalr, Lb, Lh, Lw, Ld, Lbu, Lhu, Lwu, Sb, Sh, Sw, Sd, Beq, Bne, Blt, Bge, Bltu, Bgeu, Addi, Slti, Sltiu, Xori, Ori, Andi, Addiw, Slli, Srli, Srai, Slliw, Srliw, Sraiw, Add, Sub, Sll, Slt, Sltu, Xor, Srl, Sra, Or, And, Mul, Mulh, Mulhsu, Mulhu, Div, Divu, Rem, Remu, Addw, Subw, Sllw, Srlw, Sraw, Mulw, Divw, Divuw, Remw, Remuw, Fence, FenceI, Ecall, Ebreak, Mret, Wfi, Csrrw, Csrrs, Csrrc, Csrrwi, Csrrsi, Csrrci}
use Rattle.hv_asm.specs.Syntax.{syntax_of}

-- the first of some instructions that has a name
unfoldable pub named : List ℕ → List Inst → Option Inst
named name [] = None
named name (first ∷ rest) = if pointwise nat_eq name (syntax_of first).name then Some first else named name rest

-- the instructions without operands
abbrev pub bare_instructions : List Inst
bare_instructions =
    Ecall ∷
    Ebreak ∷
    Mret ∷
    Wfi ∷
    []

-- the instructions of three registers
abbrev pub register_instructions : ℕ → ℕ → ℕ → List Inst
register_instructions rd rs1 rs2 =
    Add rd rs1 rs2 ∷
    Sub rd rs1 rs2 ∷
    Sll rd rs1 rs2 ∷
    Slt rd rs1 rs2 ∷
    Sltu rd rs1 rs2 ∷
    Xor rd rs1 rs2 ∷
    Srl rd rs1 rs2 ∷
    Sra rd rs1 rs2 ∷
    Or rd rs1 rs2 ∷
    And rd rs1 rs2 ∷
    Mul rd rs1 rs2 ∷
    Mulh rd rs1 rs2 ∷
    Mulhsu rd rs1 rs2 ∷
    Mulhu rd rs1 rs2 ∷
    Div rd rs1 rs2 ∷
    Divu rd rs1 rs2 ∷
    Rem rd rs1 rs2 ∷
    Remu rd rs1 rs2 ∷
    Addw rd rs1 rs2 ∷
    Subw rd rs1 rs2 ∷
    Sllw rd rs1 rs2 ∷
    Srlw rd rs1 rs2 ∷
    Sraw rd rs1 rs2 ∷
    Mulw rd rs1 rs2 ∷
    Divw rd rs1 rs2 ∷
    Divuw rd rs1 rs2 ∷
    Remw rd rs1 rs2 ∷
    Remuw rd rs1 rs2 ∷
    []

-- the instructions of two registers and an immediate
abbrev pub immediate_instructions : ℕ → ℕ → ℤ → List Inst
immediate_instructions rd rs1 imm =
    Addi rd rs1 imm ∷
    Slti rd rs1 imm ∷
    Sltiu rd rs1 imm ∷
    Xori rd rs1 imm ∷
    Ori rd rs1 imm ∷
    Andi rd rs1 imm ∷
    Addiw rd rs1 imm ∷
    []

-- the branches
abbrev pub branches : ℕ → ℕ → ℤ → List Inst
branches rs1 rs2 offset =
    Beq rs1 rs2 offset ∷
    Bne rs1 rs2 offset ∷
    Blt rs1 rs2 offset ∷
    Bge rs1 rs2 offset ∷
    Bltu rs1 rs2 offset ∷
    Bgeu rs1 rs2 offset ∷
    []

-- the shifts by six bits
abbrev pub long_shifts : ℕ → ℕ → ℕ → List Inst
long_shifts rd rs1 shamt =
    Slli rd rs1 shamt ∷
    Srli rd rs1 shamt ∷
    Srai rd rs1 shamt ∷
    []

-- the shifts by five bits
abbrev pub short_shifts : ℕ → ℕ → ℕ → List Inst
short_shifts rd rs1 shamt =
    Slliw rd rs1 shamt ∷
    Srliw rd rs1 shamt ∷
    Sraiw rd rs1 shamt ∷
    []

-- the loads, and JALR
abbrev pub loads : ℕ → ℤ → ℕ → List Inst
loads rd imm rs1 =
    Jalr rd rs1 imm ∷
    Lb rd rs1 imm ∷
    Lh rd rs1 imm ∷
    Lw rd rs1 imm ∷
    Ld rd rs1 imm ∷
    Lbu rd rs1 imm ∷
    Lhu rd rs1 imm ∷
    Lwu rd rs1 imm ∷
    []

-- the stores
abbrev pub stores : ℕ → ℤ → ℕ → List Inst
stores rs2 imm rs1 =
    Sb rs1 rs2 imm ∷
    Sh rs1 rs2 imm ∷
    Sw rs1 rs2 imm ∷
    Sd rs1 rs2 imm ∷
    []

-- the jump
abbrev pub jumps : ℕ → ℤ → List Inst
jumps rd offset =
    Jal rd offset ∷
    []

-- the instructions of a register and the upper twenty bits
abbrev pub upper_instructions : ℕ → ℕ → List Inst
upper_instructions rd imm =
    Lui rd imm ∷
    Auipc rd imm ∷
    []

-- the CSR instructions of two registers
abbrev pub csr_register_instructions : ℕ → ℕ → ℕ → List Inst
csr_register_instructions rd csr rs1 =
    Csrrw rd rs1 csr ∷
    Csrrs rd rs1 csr ∷
    Csrrc rd rs1 csr ∷
    []

-- the CSR instructions of a register and a number
abbrev pub csr_immediate_instructions : ℕ → ℕ → ℕ → List Inst
csr_immediate_instructions rd csr imm =
    Csrrwi rd imm csr ∷
    Csrrsi rd imm csr ∷
    Csrrci rd imm csr ∷
    []

-- the fences
abbrev pub fences : ℕ → ℕ → ℕ → List Inst
fences fields rs1 rd =
    Fence rd rs1 fields ∷
    FenceI rd rs1 fields ∷
    []
