-- The table of instruction words, by the opcode map and the listings of the RISC-V Unprivileged ISA, chapter
-- "RV32/64G Instruction Set Listings". The numbers that its names stand for are in src/opcodes.rt and src/functs.rt.
use Rattle.std.specs.Prelude.{ℕ, ◌/◌, ◌%◌, ◌^◌, Bool, true, ◌&&◌, ◌==◌, if◌then◌else◌, List, [], ◌∷◌, Option, Some, None}
use Rattle.hv_exec.specs.declared.inst.Inst.{Inst}
use Rattle.hv_exec.specs.declared.inst.Inst.TheVariants.{Lui, Auipc, Jal, Jalr, Beq, Bne, Blt, Bge, Bltu, Bgeu, Lb, Lh, Lw, Ld, Lbu, Lhu, Lwu, Sb, Sh, Sw, Sd, Addi, Slti, Sltiu, Xori, Ori, Andi, Addiw, Slli, Srli, Srai, Slliw, Srliw, Sraiw, Add, Sll, Slt, Sltu, Xor, Srl, Or, And, Sub, Sra, Mul, Mulh, Mulhsu, Mulhu, Div, Divu, Rem, Remu, Addw, Sllw, Srlw, Subw, Sraw, Mulw, Divw, Divuw, Remw, Remuw, Fence, FenceI, Ecall, Ebreak, Mret, Wfi, Csrrw, Csrrs, Csrrc, Csrrwi, Csrrsi, Csrrci}
use Rattle.hv_exec.specs.declared.functs.TheConstants.{ADD, ALTERNATE, AND, ARITHMETIC, BASE, BEQ, BGE, BGEU, BLT, BLTU, BNE, CSRRC, CSRRCI, CSRRS, CSRRSI, CSRRW, CSRRWI, DIV, DIVU, FENCE, FENCE_I, JALR_FUNCT3, LB, LBU, LD, LH, LHU, LOGICAL, LW, LWU, MUL, MULDIV, MULH, MULHSU, MULHU, OR, REM, REMU, SB, SD, SH, SLL, SLT, SLTU, SRA, SRL, SUB, SW, XOR}
use Rattle.hv_exec.specs.declared.opcodes.TheConstants.{AUIPC, BRANCH, EBREAK, ECALL, JAL, JALR, LOAD, LUI, MISC_MEM, MRET, OP, OP_32, OP_IMM, OP_IMM_32, STORE, SYSTEM, WFI}
use Rattle.hv_isa.specs.Formats.{bits, r_type, i_type, s_type, b_type, u_type, j_type, long_shift_type, short_shift_type, field_type}

-- bits that a row fixes
pub record Fixed : Type 0 where
  pub low : ℕ
  pub width : ℕ
  pub value : ℕ

-- what a row fixes beside its opcode, and the instruction that a word of the row is
pub record Row : Type 0 where
  pub fixed : List Fixed
  pub read : ℕ → Inst

-- the rows of an opcode
pub record Group : Type 0 where
  pub opcode : ℕ
  pub rows : List Row

-- bits 14 to 12
abbrev pub funct3 : ℕ → Fixed
funct3 value = record { low = 12; width = 3; value = value }

-- bits 31 to 25
abbrev pub funct7 : ℕ → Fixed
funct7 value = record { low = 25; width = 7; value = value }

-- bits 31 to 26
abbrev pub funct6 : ℕ → Fixed
funct6 value = record { low = 26; width = 6; value = value }

-- each bit of a word beside its opcode
abbrev pub whole : ℕ → Fixed
whole word = record { low = 7; width = 25; value = word / 2 ^ 7 }

-- a row of the table
abbrev pub row : List Fixed → (ℕ → Inst) → Row
row fixed read = record { fixed = fixed; read = read }

-- LUI
abbrev pub lui_rows : List Row
lui_rows =
    row [] (u_type Lui) ∷
    []

-- AUIPC
abbrev pub auipc_rows : List Row
auipc_rows =
    row [] (u_type Auipc) ∷
    []

-- JAL
abbrev pub jal_rows : List Row
jal_rows =
    row [] (j_type Jal) ∷
    []

-- JALR
abbrev pub jalr_rows : List Row
jalr_rows =
    row (funct3 JALR_FUNCT3 ∷ []) (i_type Jalr) ∷
    []

-- BRANCH
abbrev pub branch_rows : List Row
branch_rows =
    row (funct3 BEQ ∷ []) (b_type Beq) ∷
    row (funct3 BNE ∷ []) (b_type Bne) ∷
    row (funct3 BLT ∷ []) (b_type Blt) ∷
    row (funct3 BGE ∷ []) (b_type Bge) ∷
    row (funct3 BLTU ∷ []) (b_type Bltu) ∷
    row (funct3 BGEU ∷ []) (b_type Bgeu) ∷
    []

-- LOAD
abbrev pub load_rows : List Row
load_rows =
    row (funct3 LB ∷ []) (i_type Lb) ∷
    row (funct3 LH ∷ []) (i_type Lh) ∷
    row (funct3 LW ∷ []) (i_type Lw) ∷
    row (funct3 LD ∷ []) (i_type Ld) ∷
    row (funct3 LBU ∷ []) (i_type Lbu) ∷
    row (funct3 LHU ∷ []) (i_type Lhu) ∷
    row (funct3 LWU ∷ []) (i_type Lwu) ∷
    []

-- STORE
abbrev pub store_rows : List Row
store_rows =
    row (funct3 SB ∷ []) (s_type Sb) ∷
    row (funct3 SH ∷ []) (s_type Sh) ∷
    row (funct3 SW ∷ []) (s_type Sw) ∷
    row (funct3 SD ∷ []) (s_type Sd) ∷
    []

-- OP-IMM
abbrev pub immediate_rows : List Row
immediate_rows =
    row (funct3 ADD ∷ []) (i_type Addi) ∷
    row (funct3 SLT ∷ []) (i_type Slti) ∷
    row (funct3 SLTU ∷ []) (i_type Sltiu) ∷
    row (funct3 XOR ∷ []) (i_type Xori) ∷
    row (funct3 OR ∷ []) (i_type Ori) ∷
    row (funct3 AND ∷ []) (i_type Andi) ∷
    row (funct3 SLL ∷ funct6 LOGICAL ∷ []) (long_shift_type Slli) ∷
    row (funct3 SRL ∷ funct6 LOGICAL ∷ []) (long_shift_type Srli) ∷
    row (funct3 SRA ∷ funct6 ARITHMETIC ∷ []) (long_shift_type Srai) ∷
    []

-- OP-IMM-32
abbrev pub immediate_word_rows : List Row
immediate_word_rows =
    row (funct3 ADD ∷ []) (i_type Addiw) ∷
    row (funct3 SLL ∷ funct7 BASE ∷ []) (short_shift_type Slliw) ∷
    row (funct3 SRL ∷ funct7 BASE ∷ []) (short_shift_type Srliw) ∷
    row (funct3 SRA ∷ funct7 ALTERNATE ∷ []) (short_shift_type Sraiw) ∷
    []

-- OP
abbrev pub register_rows : List Row
register_rows =
    row (funct7 BASE ∷ funct3 ADD ∷ []) (r_type Add) ∷
    row (funct7 BASE ∷ funct3 SLL ∷ []) (r_type Sll) ∷
    row (funct7 BASE ∷ funct3 SLT ∷ []) (r_type Slt) ∷
    row (funct7 BASE ∷ funct3 SLTU ∷ []) (r_type Sltu) ∷
    row (funct7 BASE ∷ funct3 XOR ∷ []) (r_type Xor) ∷
    row (funct7 BASE ∷ funct3 SRL ∷ []) (r_type Srl) ∷
    row (funct7 BASE ∷ funct3 OR ∷ []) (r_type Or) ∷
    row (funct7 BASE ∷ funct3 AND ∷ []) (r_type And) ∷
    row (funct7 ALTERNATE ∷ funct3 SUB ∷ []) (r_type Sub) ∷
    row (funct7 ALTERNATE ∷ funct3 SRA ∷ []) (r_type Sra) ∷
    row (funct7 MULDIV ∷ funct3 MUL ∷ []) (r_type Mul) ∷
    row (funct7 MULDIV ∷ funct3 MULH ∷ []) (r_type Mulh) ∷
    row (funct7 MULDIV ∷ funct3 MULHSU ∷ []) (r_type Mulhsu) ∷
    row (funct7 MULDIV ∷ funct3 MULHU ∷ []) (r_type Mulhu) ∷
    row (funct7 MULDIV ∷ funct3 DIV ∷ []) (r_type Div) ∷
    row (funct7 MULDIV ∷ funct3 DIVU ∷ []) (r_type Divu) ∷
    row (funct7 MULDIV ∷ funct3 REM ∷ []) (r_type Rem) ∷
    row (funct7 MULDIV ∷ funct3 REMU ∷ []) (r_type Remu) ∷
    []

-- OP-32
abbrev pub register_word_rows : List Row
register_word_rows =
    row (funct7 BASE ∷ funct3 ADD ∷ []) (r_type Addw) ∷
    row (funct7 BASE ∷ funct3 SLL ∷ []) (r_type Sllw) ∷
    row (funct7 BASE ∷ funct3 SRL ∷ []) (r_type Srlw) ∷
    row (funct7 ALTERNATE ∷ funct3 SUB ∷ []) (r_type Subw) ∷
    row (funct7 ALTERNATE ∷ funct3 SRA ∷ []) (r_type Sraw) ∷
    row (funct7 MULDIV ∷ funct3 MUL ∷ []) (r_type Mulw) ∷
    row (funct7 MULDIV ∷ funct3 DIV ∷ []) (r_type Divw) ∷
    row (funct7 MULDIV ∷ funct3 DIVU ∷ []) (r_type Divuw) ∷
    row (funct7 MULDIV ∷ funct3 REM ∷ []) (r_type Remw) ∷
    row (funct7 MULDIV ∷ funct3 REMU ∷ []) (r_type Remuw) ∷
    []

-- MISC-MEM
abbrev pub fence_rows : List Row
fence_rows =
    row (funct3 FENCE ∷ []) (field_type Fence) ∷
    row (funct3 FENCE_I ∷ []) (field_type FenceI) ∷
    []

-- SYSTEM
abbrev pub system_rows : List Row
system_rows =
    row (funct3 CSRRW ∷ []) (field_type Csrrw) ∷
    row (funct3 CSRRS ∷ []) (field_type Csrrs) ∷
    row (funct3 CSRRC ∷ []) (field_type Csrrc) ∷
    row (funct3 CSRRWI ∷ []) (field_type Csrrwi) ∷
    row (funct3 CSRRSI ∷ []) (field_type Csrrsi) ∷
    row (funct3 CSRRCI ∷ []) (field_type Csrrci) ∷
    row (whole ECALL ∷ []) (λ word. Ecall) ∷
    row (whole EBREAK ∷ []) (λ word. Ebreak) ∷
    row (whole MRET ∷ []) (λ word. Mret) ∷
    row (whole WFI ∷ []) (λ word. Wfi) ∷
    []

-- the opcode map
abbrev pub groups : List Group
groups =
    record { opcode = LUI; rows = lui_rows } ∷
    record { opcode = AUIPC; rows = auipc_rows } ∷
    record { opcode = JAL; rows = jal_rows } ∷
    record { opcode = JALR; rows = jalr_rows } ∷
    record { opcode = BRANCH; rows = branch_rows } ∷
    record { opcode = LOAD; rows = load_rows } ∷
    record { opcode = STORE; rows = store_rows } ∷
    record { opcode = OP_IMM; rows = immediate_rows } ∷
    record { opcode = OP_IMM_32; rows = immediate_word_rows } ∷
    record { opcode = OP; rows = register_rows } ∷
    record { opcode = OP_32; rows = register_word_rows } ∷
    record { opcode = MISC_MEM; rows = fence_rows } ∷
    record { opcode = SYSTEM; rows = system_rows } ∷
    []

-- a word has what a row fixes
abbrev pub fits : ℕ → List Fixed → Bool
fits word [] = true
fits word (one ∷ others) = (bits word one.low one.width == one.value) && fits word others

-- the instruction by the first row that a word fits
abbrev pub by_rows : ℕ → List Row → Option Inst
by_rows word [] = None
by_rows word (first ∷ rest) = if fits word first.fixed then Some (first.read word) else by_rows word rest

-- the rows of an opcode, of which there are none where the map has no such opcode
abbrev pub rows_of : ℕ → List Group → List Row
rows_of opcode [] = []
rows_of opcode (first ∷ rest) = if opcode == first.opcode then first.rows else rows_of opcode rest

-- the instruction that a word is
unfoldable pub decoded : ℕ → Option Inst
decoded word = by_rows word (rows_of (word % 2 ^ 7) groups)
