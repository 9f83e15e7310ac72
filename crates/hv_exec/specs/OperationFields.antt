-- Used by proofs and private functions alone.
-- What the fields of an instruction's work hold.
use Rattle.std.specs.Prelude.{◌^◌, ◌<◌, ⊤}
use Rattle.hv_exec.specs.Operation.{IsSize}
use Rattle.hv_exec.specs.declared.operation.Operand.{Operand}
use Rattle.hv_exec.specs.declared.operation.Operand.TheVariants.{Register, Immediate, Amount, Upper, Pc, Zero}
use Rattle.hv_exec.specs.declared.operation.Operation.{Operation}
use Rattle.hv_exec.specs.declared.operation.Operation.TheVariants.{Compute, Jump, JumpRegister, Branch, Read, Write, Skip, Raise, Sleep, Privileged}

-- the register of an operand exists, and an upper immediate has 20 bits
abbrev pub IsOperand : Operand → Type 0
IsOperand (Register number) = number < 32
IsOperand (Immediate imm) = ⊤
IsOperand (Amount amount) = ⊤
IsOperand (Upper imm) = imm < 2 ^ 20
IsOperand Pc = ⊤
IsOperand Zero = ⊤

-- each register that the work names exists, and each access has a size
abbrev pub IsOperation : Operation → Type 0
IsOperation (Compute rd how left right) = (rd < 32) × IsOperand left × IsOperand right
IsOperation (Jump rd offset) = rd < 32
IsOperation (JumpRegister rd rs1 imm) = (rd < 32) × (rs1 < 32)
IsOperation (Branch when rs1 rs2 offset) = (rs1 < 32) × (rs2 < 32)
IsOperation (Read size is_signed rd rs1 imm) = IsSize size × (rd < 32) × (rs1 < 32)
IsOperation (Write size rs1 rs2 imm) = IsSize size × (rs1 < 32) × (rs2 < 32)
IsOperation Skip = ⊤
IsOperation (Raise cause) = ⊤
IsOperation Sleep = ⊤
IsOperation Privileged = ⊤
