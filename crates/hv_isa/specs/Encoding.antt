-- The word of an instruction: what its fields add up to, each at its bits.
-- Below, o, f and g are values of opcode, funct3 and funct7 (or funct6), and d, s and t those of rd, rs1 and rs2.
use Rattle.std.specs.Prelude.{ℕ, ◌+◌, ◌*◌, ◌/◌, ◌%◌, ◌^◌, ℤ}
use Rattle.hv_exec.specs.Numbers.{modulo}
use Rattle.hv_exec.specs.declared.inst.Inst.{Inst}
use Rattle.hv_exec.specs.declared.inst.Inst.TheVariants.{Lui, Auipc, Jal, Jalr, Beq, Bne, Blt, Bge, Bltu, Bgeu, Lb, Lh, Lw, Ld, Lbu, Lhu, Lwu, Sb, Sh, Sw, Sd, Addi, Slti, Sltiu, Xori, Ori, Andi, Addiw, Slli, Srli, Srai, Slliw, Srliw, Sraiw, Add, Sll, Slt, Sltu, Xor, Srl, Or, And, Sub, Sra, Mul, Mulh, Mulhsu, Mulhu, Div, Divu, Rem, Remu, Addw, Sllw, Srlw, Subw, Sraw, Mulw, Divw, Divuw, Remw, Remuw, Fence, FenceI, Ecall, Ebreak, Mret, Wfi, Csrrw, Csrrs, Csrrc, Csrrwi, Csrrsi, Csrrci}
use Rattle.hv_exec.specs.declared.functs.TheConstants.{ADD, ALTERNATE, AND, ARITHMETIC, BASE, BEQ, BGE, BGEU, BLT, BLTU, BNE, CSRRC, CSRRCI, CSRRS, CSRRSI, CSRRW, CSRRWI, DIV, DIVU, FENCE, FENCE_I, JALR_FUNCT3, LB, LBU, LD, LH, LHU, LOGICAL, LW, LWU, MUL, MULDIV, MULH, MULHSU, MULHU, OR, REM, REMU, SB, SD, SH, SLL, SLT, SLTU, SRA, SRL, SUB, SW, XOR}
use Rattle.hv_exec.specs.declared.opcodes.TheConstants.{AUIPC, BRANCH, EBREAK, ECALL, JAL, JALR, LOAD, LUI, MISC_MEM, MRET, OP, OP_32, OP_IMM, OP_IMM_32, STORE, SYSTEM, WFI}

-- the word of three registers, or of two and a shift amount of five bits
unfoldable pub r_form : ℕ → ℕ → ℕ → ℕ → ℕ → ℕ → ℕ
r_form o f g d s t = o + d * 2 ^ 7 + f * 2 ^ 12 + s * 2 ^ 15 + t * 2 ^ 20 + g * 2 ^ 25

-- the word of a shift by an amount of six bits
unfoldable pub long_form : ℕ → ℕ → ℕ → ℕ → ℕ → ℕ → ℕ
long_form o f g d s by = o + d * 2 ^ 7 + f * 2 ^ 12 + s * 2 ^ 15 + by * 2 ^ 20 + g * 2 ^ 26

-- the word of two registers and a field of twelve bits, bits 31 to 20
unfoldable pub field_form : ℕ → ℕ → ℕ → ℕ → ℕ → ℕ
field_form o f d s t = o + d * 2 ^ 7 + f * 2 ^ 12 + s * 2 ^ 15 + t * 2 ^ 20

-- the word of two registers and an immediate in that field
abbrev pub i_form : ℕ → ℕ → ℕ → ℕ → ℤ → ℕ
i_form o f d s imm = field_form o f d s (modulo 12 imm)

-- the word of a register and the upper twenty bits
unfoldable pub u_form : ℕ → ℕ → ℕ → ℕ
u_form o d imm = o + d * 2 ^ 7 + imm * 2 ^ 12

-- the word of a store whose immediate has the twelve bits n
unfoldable pub s_sum : ℕ → ℕ → ℕ → ℕ → ℕ → ℕ
s_sum o f s t n = o + n % 2 ^ 5 * 2 ^ 7 + f * 2 ^ 12 + s * 2 ^ 15 + t * 2 ^ 20 + n / 2 ^ 5 * 2 ^ 25

-- the word of a store with an immediate
abbrev pub s_form : ℕ → ℕ → ℕ → ℕ → ℤ → ℕ
s_form o f s t imm = s_sum o f s t (modulo 12 imm)

-- the word of a branch whose offset has the thirteen bits n, of which the lowest is left out
unfoldable pub b_sum : ℕ → ℕ → ℕ → ℕ → ℕ → ℕ
b_sum o f s t n =
    o + n / 2 ^ 11 % 2 * 2 ^ 7 + n / 2 % 2 ^ 4 * 2 ^ 8 + f * 2 ^ 12 + s * 2 ^ 15 + t * 2 ^ 20
    + n / 2 ^ 5 % 2 ^ 6 * 2 ^ 25 + n / 2 ^ 12 * 2 ^ 31

-- the word of a branch with an offset
abbrev pub b_form : ℕ → ℕ → ℕ → ℕ → ℤ → ℕ
b_form o f s t offset = b_sum o f s t (modulo 13 offset)

-- the word of a jump whose offset has the 21 bits n, of which the lowest is left out
unfoldable pub j_sum : ℕ → ℕ → ℕ → ℕ
j_sum o d n =
    o + d * 2 ^ 7 + n / 2 ^ 12 % 2 ^ 8 * 2 ^ 12 + n / 2 ^ 11 % 2 * 2 ^ 20
    + n / 2 % 2 ^ 10 * 2 ^ 21 + n / 2 ^ 20 * 2 ^ 31

-- the word of a jump with an offset
abbrev pub j_form : ℕ → ℕ → ℤ → ℕ
j_form o d offset = j_sum o d (modulo 21 offset)

-- the word that the fields of an instruction add up to
abbrev pub encoded : Inst → ℕ
encoded (Lui d imm) = u_form LUI d imm
encoded (Auipc d imm) = u_form AUIPC d imm
encoded (Jal d imm) = j_form JAL d imm
encoded (Jalr d s imm) = i_form JALR JALR_FUNCT3 d s imm
encoded (Beq s t imm) = b_form BRANCH BEQ s t imm
encoded (Bne s t imm) = b_form BRANCH BNE s t imm
encoded (Blt s t imm) = b_form BRANCH BLT s t imm
encoded (Bge s t imm) = b_form BRANCH BGE s t imm
encoded (Bltu s t imm) = b_form BRANCH BLTU s t imm
encoded (Bgeu s t imm) = b_form BRANCH BGEU s t imm
encoded (Lb d s imm) = i_form LOAD LB d s imm
encoded (Lh d s imm) = i_form LOAD LH d s imm
encoded (Lw d s imm) = i_form LOAD LW d s imm
encoded (Ld d s imm) = i_form LOAD LD d s imm
encoded (Lbu d s imm) = i_form LOAD LBU d s imm
encoded (Lhu d s imm) = i_form LOAD LHU d s imm
encoded (Lwu d s imm) = i_form LOAD LWU d s imm
encoded (Sb s t imm) = s_form STORE SB s t imm
encoded (Sh s t imm) = s_form STORE SH s t imm
encoded (Sw s t imm) = s_form STORE SW s t imm
encoded (Sd s t imm) = s_form STORE SD s t imm
encoded (Addi d s imm) = i_form OP_IMM ADD d s imm
encoded (Slti d s imm) = i_form OP_IMM SLT d s imm
encoded (Sltiu d s imm) = i_form OP_IMM SLTU d s imm
encoded (Xori d s imm) = i_form OP_IMM XOR d s imm
encoded (Ori d s imm) = i_form OP_IMM OR d s imm
encoded (Andi d s imm) = i_form OP_IMM AND d s imm
encoded (Slli d s by) = long_form OP_IMM SLL LOGICAL d s by
encoded (Srli d s by) = long_form OP_IMM SRL LOGICAL d s by
encoded (Srai d s by) = long_form OP_IMM SRA ARITHMETIC d s by
encoded (Addiw d s imm) = i_form OP_IMM_32 ADD d s imm
encoded (Slliw d s by) = r_form OP_IMM_32 SLL BASE d s by
encoded (Srliw d s by) = r_form OP_IMM_32 SRL BASE d s by
encoded (Sraiw d s by) = r_form OP_IMM_32 SRA ALTERNATE d s by
encoded (Add d s t) = r_form OP ADD BASE d s t
encoded (Sll d s t) = r_form OP SLL BASE d s t
encoded (Slt d s t) = r_form OP SLT BASE d s t
encoded (Sltu d s t) = r_form OP SLTU BASE d s t
encoded (Xor d s t) = r_form OP XOR BASE d s t
encoded (Srl d s t) = r_form OP SRL BASE d s t
encoded (Or d s t) = r_form OP OR BASE d s t
encoded (And d s t) = r_form OP AND BASE d s t
encoded (Sub d s t) = r_form OP SUB ALTERNATE d s t
encoded (Sra d s t) = r_form OP SRA ALTERNATE d s t
encoded (Mul d s t) = r_form OP MUL MULDIV d s t
encoded (Mulh d s t) = r_form OP MULH MULDIV d s t
encoded (Mulhsu d s t) = r_form OP MULHSU MULDIV d s t
encoded (Mulhu d s t) = r_form OP MULHU MULDIV d s t
encoded (Div d s t) = r_form OP DIV MULDIV d s t
encoded (Divu d s t) = r_form OP DIVU MULDIV d s t
encoded (Rem d s t) = r_form OP REM MULDIV d s t
encoded (Remu d s t) = r_form OP REMU MULDIV d s t
encoded (Addw d s t) = r_form OP_32 ADD BASE d s t
encoded (Sllw d s t) = r_form OP_32 SLL BASE d s t
encoded (Srlw d s t) = r_form OP_32 SRL BASE d s t
encoded (Subw d s t) = r_form OP_32 SUB ALTERNATE d s t
encoded (Sraw d s t) = r_form OP_32 SRA ALTERNATE d s t
encoded (Mulw d s t) = r_form OP_32 MUL MULDIV d s t
encoded (Divw d s t) = r_form OP_32 DIV MULDIV d s t
encoded (Divuw d s t) = r_form OP_32 DIVU MULDIV d s t
encoded (Remw d s t) = r_form OP_32 REM MULDIV d s t
encoded (Remuw d s t) = r_form OP_32 REMU MULDIV d s t
encoded (Fence d s t) = field_form MISC_MEM FENCE d s t
encoded (FenceI d s t) = field_form MISC_MEM FENCE_I d s t
encoded Ecall = ECALL
encoded Ebreak = EBREAK
encoded Mret = MRET
encoded Wfi = WFI
encoded (Csrrw d s t) = field_form SYSTEM CSRRW d s t
encoded (Csrrs d s t) = field_form SYSTEM CSRRS d s t
encoded (Csrrc d s t) = field_form SYSTEM CSRRC d s t
encoded (Csrrwi d s t) = field_form SYSTEM CSRRWI d s t
encoded (Csrrsi d s t) = field_form SYSTEM CSRRSI d s t
encoded (Csrrci d s t) = field_form SYSTEM CSRRCI d s t
