-- The work that each instruction asks of the hart.
use Rattle.std.specs.Prelude.{◌≡◌, ◌⊎◌, ℕ, ℤ, true, false}
use Rattle.hv_exec.specs.declared.causes.TheConstants.{BREAKPOINT, ENVIRONMENT_CALL_FROM_M_MODE}
use Rattle.hv_exec.specs.declared.inst.Inst.{Inst}
use Rattle.hv_exec.specs.declared.inst.Inst.TheVariants.{Lui, Auipc, Jal, Jalr, Beq, Bne, Blt, Bge, Bltu, Bgeu, Lb, Lh, Lw, Ld, Lbu, Lhu, Lwu, Sb, Sh, Sw, Sd, Addi, Slti, Sltiu, Xori, Ori, Andi, Addiw, Slli, Srli, Srai, Slliw, Srliw, Sraiw, Add, Sub, Sll, Slt, Sltu, Xor, Srl, Sra, Or, And, Mul, Mulh, Mulhsu, Mulhu, Div, Divu, Rem, Remu, Addw, Subw, Sllw, Srlw, Sraw, Mulw, Divw, Divuw, Remw, Remuw, Fence, FenceI, Ecall, Ebreak, Mret, Wfi, Csrrw, Csrrs, Csrrc, Csrrwi, Csrrsi, Csrrci}
use Rattle.hv_exec.specs.declared.operation.Alu.{Alu}
use Rattle.hv_exec.specs.declared.operation.Alu.TheVariants as alu
use Rattle.hv_exec.specs.declared.operation.Condition.TheVariants as condition
use Rattle.hv_exec.specs.declared.operation.Operand.{Operand}
use Rattle.hv_exec.specs.declared.operation.Operand.TheVariants.{Register, Immediate, Amount, Upper, Pc, Zero}
use Rattle.hv_exec.specs.declared.operation.Operation.{Operation}
use Rattle.hv_exec.specs.declared.operation.Operation.TheVariants.{Compute, Jump, JumpRegister, Branch, Read, Write, Skip, Raise, Sleep, Privileged}

-- a result of two registers
abbrev pub on_registers : Alu → ℕ → ℕ → ℕ → Operation
on_registers how rd rs1 rs2 = Compute rd how (Register rs1) (Register rs2)

-- a result of a register and an immediate
abbrev pub on_immediate : Alu → ℕ → ℕ → ℤ → Operation
on_immediate how rd rs1 imm = Compute rd how (Register rs1) (Immediate imm)

-- a result of a register and an amount
abbrev pub on_amount : Alu → ℕ → ℕ → ℕ → Operation
on_amount how rd rs1 amount = Compute rd how (Register rs1) (Amount amount)

-- the sum of a base and an upper immediate
abbrev pub on_upper : ℕ → Operand → ℕ → Operation
on_upper rd base imm = Compute rd alu.Add base (Upper imm)

-- the work of each instruction
unfoldable pub operation_of : Inst → Operation
operation_of (Lui rd imm) = on_upper rd Zero imm
operation_of (Auipc rd imm) = on_upper rd Pc imm
operation_of (Jal rd offset) = Jump rd offset
operation_of (Jalr rd rs1 imm) = JumpRegister rd rs1 imm
operation_of (Beq rs1 rs2 offset) = Branch condition.Equal rs1 rs2 offset
operation_of (Bne rs1 rs2 offset) = Branch condition.NotEqual rs1 rs2 offset
operation_of (Blt rs1 rs2 offset) = Branch condition.Less rs1 rs2 offset
operation_of (Bge rs1 rs2 offset) = Branch condition.NotLess rs1 rs2 offset
operation_of (Bltu rs1 rs2 offset) = Branch condition.LessUnsigned rs1 rs2 offset
operation_of (Bgeu rs1 rs2 offset) = Branch condition.NotLessUnsigned rs1 rs2 offset
operation_of (Lb rd rs1 imm) = Read 1 true rd rs1 imm
operation_of (Lh rd rs1 imm) = Read 2 true rd rs1 imm
operation_of (Lw rd rs1 imm) = Read 4 true rd rs1 imm
operation_of (Ld rd rs1 imm) = Read 8 true rd rs1 imm
operation_of (Lbu rd rs1 imm) = Read 1 false rd rs1 imm
operation_of (Lhu rd rs1 imm) = Read 2 false rd rs1 imm
operation_of (Lwu rd rs1 imm) = Read 4 false rd rs1 imm
operation_of (Sb rs1 rs2 imm) = Write 1 rs1 rs2 imm
operation_of (Sh rs1 rs2 imm) = Write 2 rs1 rs2 imm
operation_of (Sw rs1 rs2 imm) = Write 4 rs1 rs2 imm
operation_of (Sd rs1 rs2 imm) = Write 8 rs1 rs2 imm
operation_of (Addi rd rs1 imm) = on_immediate alu.Add rd rs1 imm
operation_of (Slti rd rs1 imm) = on_immediate alu.Less rd rs1 imm
operation_of (Sltiu rd rs1 imm) = on_immediate alu.LessUnsigned rd rs1 imm
operation_of (Xori rd rs1 imm) = on_immediate alu.ExclusiveOr rd rs1 imm
operation_of (Ori rd rs1 imm) = on_immediate alu.Or rd rs1 imm
operation_of (Andi rd rs1 imm) = on_immediate alu.And rd rs1 imm
operation_of (Addiw rd rs1 imm) = on_immediate alu.AddWord rd rs1 imm
operation_of (Slli rd rs1 shamt) = on_amount alu.ShiftLeft rd rs1 shamt
operation_of (Srli rd rs1 shamt) = on_amount alu.ShiftRight rd rs1 shamt
operation_of (Srai rd rs1 shamt) = on_amount alu.ShiftRightSigned rd rs1 shamt
operation_of (Slliw rd rs1 shamt) = on_amount alu.ShiftLeftWord rd rs1 shamt
operation_of (Srliw rd rs1 shamt) = on_amount alu.ShiftRightWord rd rs1 shamt
operation_of (Sraiw rd rs1 shamt) = on_amount alu.ShiftRightSignedWord rd rs1 shamt
operation_of (Add rd rs1 rs2) = on_registers alu.Add rd rs1 rs2
operation_of (Sub rd rs1 rs2) = on_registers alu.Subtract rd rs1 rs2
operation_of (Sll rd rs1 rs2) = on_registers alu.ShiftLeft rd rs1 rs2
operation_of (Slt rd rs1 rs2) = on_registers alu.Less rd rs1 rs2
operation_of (Sltu rd rs1 rs2) = on_registers alu.LessUnsigned rd rs1 rs2
operation_of (Xor rd rs1 rs2) = on_registers alu.ExclusiveOr rd rs1 rs2
operation_of (Srl rd rs1 rs2) = on_registers alu.ShiftRight rd rs1 rs2
operation_of (Sra rd rs1 rs2) = on_registers alu.ShiftRightSigned rd rs1 rs2
operation_of (Or rd rs1 rs2) = on_registers alu.Or rd rs1 rs2
operation_of (And rd rs1 rs2) = on_registers alu.And rd rs1 rs2
operation_of (Mul rd rs1 rs2) = on_registers alu.Multiply rd rs1 rs2
operation_of (Mulh rd rs1 rs2) = on_registers alu.MultiplyHigh rd rs1 rs2
operation_of (Mulhsu rd rs1 rs2) = on_registers alu.MultiplyHighMixed rd rs1 rs2
operation_of (Mulhu rd rs1 rs2) = on_registers alu.MultiplyHighUnsigned rd rs1 rs2
operation_of (Div rd rs1 rs2) = on_registers alu.Divide rd rs1 rs2
operation_of (Divu rd rs1 rs2) = on_registers alu.DivideUnsigned rd rs1 rs2
operation_of (Rem rd rs1 rs2) = on_registers alu.Remain rd rs1 rs2
operation_of (Remu rd rs1 rs2) = on_registers alu.RemainUnsigned rd rs1 rs2
operation_of (Addw rd rs1 rs2) = on_registers alu.AddWord rd rs1 rs2
operation_of (Subw rd rs1 rs2) = on_registers alu.SubtractWord rd rs1 rs2
operation_of (Sllw rd rs1 rs2) = on_registers alu.ShiftLeftWord rd rs1 rs2
operation_of (Srlw rd rs1 rs2) = on_registers alu.ShiftRightWord rd rs1 rs2
operation_of (Sraw rd rs1 rs2) = on_registers alu.ShiftRightSignedWord rd rs1 rs2
operation_of (Mulw rd rs1 rs2) = on_registers alu.MultiplyWord rd rs1 rs2
operation_of (Divw rd rs1 rs2) = on_registers alu.DivideWord rd rs1 rs2
operation_of (Divuw rd rs1 rs2) = on_registers alu.DivideUnsignedWord rd rs1 rs2
operation_of (Remw rd rs1 rs2) = on_registers alu.RemainWord rd rs1 rs2
operation_of (Remuw rd rs1 rs2) = on_registers alu.RemainUnsignedWord rd rs1 rs2
operation_of (Fence rd rs1 fields) = Skip
operation_of (FenceI rd rs1 fields) = Skip
operation_of Ecall = Raise ENVIRONMENT_CALL_FROM_M_MODE
operation_of Ebreak = Raise BREAKPOINT
operation_of Mret = Privileged
operation_of Wfi = Sleep
operation_of (Csrrw rd rs1 csr) = Privileged
operation_of (Csrrs rd rs1 csr) = Privileged
operation_of (Csrrc rd rs1 csr) = Privileged
operation_of (Csrrwi rd imm csr) = Privileged
operation_of (Csrrsi rd imm csr) = Privileged
operation_of (Csrrci rd imm csr) = Privileged

-- a CSR instruction or MRET
abbrev pub IsPrivileged : Inst → Type 0
IsPrivileged inst = operation_of inst ≡ Privileged

-- 1, 2, 4 or 8 bytes
abbrev pub IsSize : ℕ → Type 0
IsSize size = (size ≡ 1) ⊎ ((size ≡ 2) ⊎ ((size ≡ 4) ⊎ (size ≡ 8)))
