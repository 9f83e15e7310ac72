-- The operands that the fields of an instruction can hold.
use Rattle.std.specs.Prelude.{◌≡◌, ℕ, ◌-◌, ◌%◌, ◌^◌, ◌<◌, ⊤, ℤ, pos, ◌≤ℤ◌, ◌<ℤ◌, neg_ℤ, unsigned_abs}
use Rattle.hv_exec.specs.declared.inst.Inst.{Inst}
use Rattle.hv_exec.specs.declared.inst.Inst.TheVariants.{Lui, Auipc, Jal, Jalr, Beq, Bne, Blt, Bge, Bltu, Bgeu, Lb, Lh, Lw, Ld, Lbu, Lhu, Lwu, Sb, Sh, Sw, Sd, Addi, Slti, Sltiu, Xori, Ori, Andi, Addiw, Slli, Srli, Srai, Slliw, Srliw, Sraiw, Add, Sub, Sll, Slt, Sltu, Xor, Srl, Sra, Or, And, Mul, Mulh, Mulhsu, Mulhu, Div, Divu, Rem, Remu, Addw, Subw, Sllw, Srlw, Sraw, Mulw, Divw, Divuw, Remw, Remuw, Fence, FenceI, Ecall, Ebreak, Mret, Wfi, Csrrw, Csrrs, Csrrc, Csrrwi, Csrrsi, Csrrci}

-- the number has a two's complement form of k bits
pub record IsSigned (k : ℕ) (z : ℤ) : Type 0 where
  pub least : neg_ℤ (pos (2 ^ (k - 1))) ≤ℤ z
  pub below : z <ℤ pos (2 ^ (k - 1))

-- such a number, and even
pub record IsOffset (k : ℕ) (z : ℤ) : Type 0 where
  pub signed : IsSigned k z
  pub even : unsigned_abs z % 2 ≡ 0

-- two registers and a signed immediate of 12 bits
pub record IsImmediate (one other : ℕ) (imm : ℤ) : Type 0 where
  pub first_fits : one < 32
  pub second_fits : other < 32
  pub immediate_fits : IsSigned 12 imm

-- two registers, or fields of 5 bits, and a third field below a bound
pub record HasFields (one other third bound : ℕ) : Type 0 where
  pub first_fits : one < 32
  pub second_fits : other < 32
  pub third_fits : third < bound

-- each operand fits its field
unfoldable pub IsWellFormed : Inst → Type 0
IsWellFormed (Lui rd imm) = (rd < 32) × (imm < 2 ^ 20)
IsWellFormed (Auipc rd imm) = (rd < 32) × (imm < 2 ^ 20)
IsWellFormed (Jal rd offset) = (rd < 32) × IsOffset 21 offset
IsWellFormed (Jalr rd rs1 imm) = IsImmediate rd rs1 imm
IsWellFormed (Beq rs1 rs2 offset) = (rs1 < 32) × (rs2 < 32) × IsOffset 13 offset
IsWellFormed (Bne rs1 rs2 offset) = (rs1 < 32) × (rs2 < 32) × IsOffset 13 offset
IsWellFormed (Blt rs1 rs2 offset) = (rs1 < 32) × (rs2 < 32) × IsOffset 13 offset
IsWellFormed (Bge rs1 rs2 offset) = (rs1 < 32) × (rs2 < 32) × IsOffset 13 offset
IsWellFormed (Bltu rs1 rs2 offset) = (rs1 < 32) × (rs2 < 32) × IsOffset 13 offset
IsWellFormed (Bgeu rs1 rs2 offset) = (rs1 < 32) × (rs2 < 32) × IsOffset 13 offset
IsWellFormed (Lb rd rs1 imm) = IsImmediate rd rs1 imm
IsWellFormed (Lh rd rs1 imm) = IsImmediate rd rs1 imm
IsWellFormed (Lw rd rs1 imm) = IsImmediate rd rs1 imm
IsWellFormed (Ld rd rs1 imm) = IsImmediate rd rs1 imm
IsWellFormed (Lbu rd rs1 imm) = IsImmediate rd rs1 imm
IsWellFormed (Lhu rd rs1 imm) = IsImmediate rd rs1 imm
IsWellFormed (Lwu rd rs1 imm) = IsImmediate rd rs1 imm
IsWellFormed (Sb rs1 rs2 imm) = IsImmediate rs1 rs2 imm
IsWellFormed (Sh rs1 rs2 imm) = IsImmediate rs1 rs2 imm
IsWellFormed (Sw rs1 rs2 imm) = IsImmediate rs1 rs2 imm
IsWellFormed (Sd rs1 rs2 imm) = IsImmediate rs1 rs2 imm
IsWellFormed (Addi rd rs1 imm) = IsImmediate rd rs1 imm
IsWellFormed (Slti rd rs1 imm) = IsImmediate rd rs1 imm
IsWellFormed (Sltiu rd rs1 imm) = IsImmediate rd rs1 imm
IsWellFormed (Xori rd rs1 imm) = IsImmediate rd rs1 imm
IsWellFormed (Ori rd rs1 imm) = IsImmediate rd rs1 imm
IsWellFormed (Andi rd rs1 imm) = IsImmediate rd rs1 imm
IsWellFormed (Slli rd rs1 shamt) = HasFields rd rs1 shamt 64
IsWellFormed (Srli rd rs1 shamt) = HasFields rd rs1 shamt 64
IsWellFormed (Srai rd rs1 shamt) = HasFields rd rs1 shamt 64
IsWellFormed (Addiw rd rs1 imm) = IsImmediate rd rs1 imm
IsWellFormed (Slliw rd rs1 shamt) = HasFields rd rs1 shamt 32
IsWellFormed (Srliw rd rs1 shamt) = HasFields rd rs1 shamt 32
IsWellFormed (Sraiw rd rs1 shamt) = HasFields rd rs1 shamt 32
IsWellFormed (Add rd rs1 rs2) = HasFields rd rs1 rs2 32
IsWellFormed (Sub rd rs1 rs2) = HasFields rd rs1 rs2 32
IsWellFormed (Sll rd rs1 rs2) = HasFields rd rs1 rs2 32
IsWellFormed (Slt rd rs1 rs2) = HasFields rd rs1 rs2 32
IsWellFormed (Sltu rd rs1 rs2) = HasFields rd rs1 rs2 32
IsWellFormed (Xor rd rs1 rs2) = HasFields rd rs1 rs2 32
IsWellFormed (Srl rd rs1 rs2) = HasFields rd rs1 rs2 32
IsWellFormed (Sra rd rs1 rs2) = HasFields rd rs1 rs2 32
IsWellFormed (Or rd rs1 rs2) = HasFields rd rs1 rs2 32
IsWellFormed (And rd rs1 rs2) = HasFields rd rs1 rs2 32
IsWellFormed (Mul rd rs1 rs2) = HasFields rd rs1 rs2 32
IsWellFormed (Mulh rd rs1 rs2) = HasFields rd rs1 rs2 32
IsWellFormed (Mulhsu rd rs1 rs2) = HasFields rd rs1 rs2 32
IsWellFormed (Mulhu rd rs1 rs2) = HasFields rd rs1 rs2 32
IsWellFormed (Div rd rs1 rs2) = HasFields rd rs1 rs2 32
IsWellFormed (Divu rd rs1 rs2) = HasFields rd rs1 rs2 32
IsWellFormed (Rem rd rs1 rs2) = HasFields rd rs1 rs2 32
IsWellFormed (Remu rd rs1 rs2) = HasFields rd rs1 rs2 32
IsWellFormed (Addw rd rs1 rs2) = HasFields rd rs1 rs2 32
IsWellFormed (Subw rd rs1 rs2) = HasFields rd rs1 rs2 32
IsWellFormed (Sllw rd rs1 rs2) = HasFields rd rs1 rs2 32
IsWellFormed (Srlw rd rs1 rs2) = HasFields rd rs1 rs2 32
IsWellFormed (Sraw rd rs1 rs2) = HasFields rd rs1 rs2 32
IsWellFormed (Mulw rd rs1 rs2) = HasFields rd rs1 rs2 32
IsWellFormed (Divw rd rs1 rs2) = HasFields rd rs1 rs2 32
IsWellFormed (Divuw rd rs1 rs2) = HasFields rd rs1 rs2 32
IsWellFormed (Remw rd rs1 rs2) = HasFields rd rs1 rs2 32
IsWellFormed (Remuw rd rs1 rs2) = HasFields rd rs1 rs2 32
IsWellFormed (Fence rd rs1 fields) = HasFields rd rs1 fields (2 ^ 12)
IsWellFormed (FenceI rd rs1 fields) = HasFields rd rs1 fields (2 ^ 12)
IsWellFormed Ecall = ⊤
IsWellFormed Ebreak = ⊤
IsWellFormed Mret = ⊤
IsWellFormed Wfi = ⊤
IsWellFormed (Csrrw rd rs1 csr) = HasFields rd rs1 csr (2 ^ 12)
IsWellFormed (Csrrs rd rs1 csr) = HasFields rd rs1 csr (2 ^ 12)
IsWellFormed (Csrrc rd rs1 csr) = HasFields rd rs1 csr (2 ^ 12)
IsWellFormed (Csrrwi rd imm csr) = HasFields rd imm csr (2 ^ 12)
IsWellFormed (Csrrsi rd imm csr) = HasFields rd imm csr (2 ^ 12)
IsWellFormed (Csrrci rd imm csr) = HasFields rd imm csr (2 ^ 12)
