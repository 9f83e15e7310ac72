-- The table of the assembler: the name of each instruction and the form of its operands, in the order of its line.
use Rattle.std.specs.Prelude.{ℕ, ℤ, pos, List, ◌∷◌, codes}
use Rattle.std.specs.List.{join_with_byte}
use Rattle.hv_exec.specs.declared.inst.Inst.{Inst}
use Rattle.hv_exec.specs.declared.inst.Inst.TheVariants.{Lui, Auipc, Jal, Jalr, Lb, Lh, Lw, Ld, Lbu, Lhu, Lwu, Sb, Sh, Sw, Sd, Beq, Bne, Blt, Bge, Bltu, Bgeu, Addi, Slti, Sltiu, Xori, Ori, Andi, Addiw, Slli, Srli, Srai, Slliw, Srliw, Sraiw, Add, Sub, Sll, Slt, Sltu, Xor, Srl, Sra, Or, And, Mul, Mulh, Mulhsu, Mulhu, Div, Divu, Rem, Remu, Addw, Subw, Sllw, Srlw, Sraw, Mulw, Divw, Divuw, Remw, Remuw, Fence, FenceI, Ecall, Ebreak, Mret, Wfi, Csrrw, Csrrs, Csrrc, Csrrwi, Csrrsi, Csrrci}
use Rattle.hv_asm.specs.declared.operand.Operands.{Operands}
use Rattle.hv_asm.specs.declared.operand.Operands.TheVariants.{Nothing, One, Two, Three}
use Rattle.hv_asm.specs.declared.operand.Operand.TheVariants.{Register, Decimal, Hexadecimal, Based}
use Rattle.hv_asm.specs.Operand.{operand_words}

-- a name and operands
pub record Syntax : Type 0 where
  pub name : List ℕ
  pub operands : Operands

-- a name alone: `ecall`
abbrev pub bare : List ℕ → Syntax
bare name = record { name = name; operands = Nothing }

-- three registers: `add x1, x2, x3`
abbrev pub registers : List ℕ → ℕ → ℕ → ℕ → Syntax
registers name one two three = record { name = name; operands = Three (Register one) (Register two) (Register three) }

-- two registers and a number, which is a branch's offset or a shift's amount too: `addi x1, x2, -5`
abbrev pub immediate : List ℕ → ℕ → ℕ → ℤ → Syntax
immediate name one two value = record { name = name; operands = Three (Register one) (Register two) (Decimal value) }

-- a register, and an offset from a register: `ld x1, 8(x2)`
abbrev pub based : List ℕ → ℕ → ℤ → ℕ → Syntax
based name one offset base = record { name = name; operands = Two (Register one) (Based offset base) }

-- a register and an offset: `jal x1, 16`
abbrev pub jump : List ℕ → ℕ → ℤ → Syntax
jump name one offset = record { name = name; operands = Two (Register one) (Decimal offset) }

-- a register and the upper twenty bits: `lui x1, 0x12345`
abbrev pub upper : List ℕ → ℕ → ℕ → Syntax
upper name one value = record { name = name; operands = Two (Register one) (Hexadecimal value) }

-- a register, the number of a CSR and a register: `csrrw x1, 0x305, x2`
abbrev pub csr_register : List ℕ → ℕ → ℕ → ℕ → Syntax
csr_register name one csr two = record { name = name; operands = Three (Register one) (Hexadecimal csr) (Register two) }

-- a register, the number of a CSR and a number: `csrrwi x1, 0x305, 3`
abbrev pub csr_immediate : List ℕ → ℕ → ℕ → ℕ → Syntax
csr_immediate name one csr value = record { name = name; operands = Three (Register one) (Hexadecimal csr) (Decimal (pos value)) }

-- bits 31 to 20, then rs1 and rd: `fence 0x0, x0, x0`
abbrev pub fence : List ℕ → ℕ → ℕ → ℕ → Syntax
fence name fields one two = record { name = name; operands = Three (Hexadecimal fields) (Register one) (Register two) }

-- a word by its number: `.word 0x00000000`
abbrev pub literal : ℕ → Syntax
literal word = record { name = codes ".word"; operands = One (Hexadecimal word) }

-- the table: a load and a store put their data register first, a branch its two sources
abbrev pub syntax_of : Inst → Syntax
syntax_of (Lui rd imm) = upper (codes "lui") rd imm
syntax_of (Auipc rd imm) = upper (codes "auipc") rd imm
syntax_of (Jal rd offset) = jump (codes "jal") rd offset
syntax_of (Jalr rd rs1 imm) = based (codes "jalr") rd imm rs1
syntax_of (Lb rd rs1 imm) = based (codes "lb") rd imm rs1
syntax_of (Lh rd rs1 imm) = based (codes "lh") rd imm rs1
syntax_of (Lw rd rs1 imm) = based (codes "lw") rd imm rs1
syntax_of (Ld rd rs1 imm) = based (codes "ld") rd imm rs1
syntax_of (Lbu rd rs1 imm) = based (codes "lbu") rd imm rs1
syntax_of (Lhu rd rs1 imm) = based (codes "lhu") rd imm rs1
syntax_of (Lwu rd rs1 imm) = based (codes "lwu") rd imm rs1
syntax_of (Sb rs1 rs2 imm) = based (codes "sb") rs2 imm rs1
syntax_of (Sh rs1 rs2 imm) = based (codes "sh") rs2 imm rs1
syntax_of (Sw rs1 rs2 imm) = based (codes "sw") rs2 imm rs1
syntax_of (Sd rs1 rs2 imm) = based (codes "sd") rs2 imm rs1
syntax_of (Beq rs1 rs2 offset) = immediate (codes "beq") rs1 rs2 offset
syntax_of (Bne rs1 rs2 offset) = immediate (codes "bne") rs1 rs2 offset
syntax_of (Blt rs1 rs2 offset) = immediate (codes "blt") rs1 rs2 offset
syntax_of (Bge rs1 rs2 offset) = immediate (codes "bge") rs1 rs2 offset
syntax_of (Bltu rs1 rs2 offset) = immediate (codes "bltu") rs1 rs2 offset
syntax_of (Bgeu rs1 rs2 offset) = immediate (codes "bgeu") rs1 rs2 offset
syntax_of (Addi rd rs1 imm) = immediate (codes "addi") rd rs1 imm
syntax_of (Slti rd rs1 imm) = immediate (codes "slti") rd rs1 imm
syntax_of (Sltiu rd rs1 imm) = immediate (codes "sltiu") rd rs1 imm
syntax_of (Xori rd rs1 imm) = immediate (codes "xori") rd rs1 imm
syntax_of (Ori rd rs1 imm) = immediate (codes "ori") rd rs1 imm
syntax_of (Andi rd rs1 imm) = immediate (codes "andi") rd rs1 imm
syntax_of (Addiw rd rs1 imm) = immediate (codes "addiw") rd rs1 imm
syntax_of (Slli rd rs1 shamt) = immediate (codes "slli") rd rs1 (pos shamt)
syntax_of (Srli rd rs1 shamt) = immediate (codes "srli") rd rs1 (pos shamt)
syntax_of (Srai rd rs1 shamt) = immediate (codes "srai") rd rs1 (pos shamt)
syntax_of (Slliw rd rs1 shamt) = immediate (codes "slliw") rd rs1 (pos shamt)
syntax_of (Srliw rd rs1 shamt) = immediate (codes "srliw") rd rs1 (pos shamt)
syntax_of (Sraiw rd rs1 shamt) = immediate (codes "sraiw") rd rs1 (pos shamt)
syntax_of (Add rd rs1 rs2) = registers (codes "add") rd rs1 rs2
syntax_of (Sub rd rs1 rs2) = registers (codes "sub") rd rs1 rs2
syntax_of (Sll rd rs1 rs2) = registers (codes "sll") rd rs1 rs2
syntax_of (Slt rd rs1 rs2) = registers (codes "slt") rd rs1 rs2
syntax_of (Sltu rd rs1 rs2) = registers (codes "sltu") rd rs1 rs2
syntax_of (Xor rd rs1 rs2) = registers (codes "xor") rd rs1 rs2
syntax_of (Srl rd rs1 rs2) = registers (codes "srl") rd rs1 rs2
syntax_of (Sra rd rs1 rs2) = registers (codes "sra") rd rs1 rs2
syntax_of (Or rd rs1 rs2) = registers (codes "or") rd rs1 rs2
syntax_of (And rd rs1 rs2) = registers (codes "and") rd rs1 rs2
syntax_of (Mul rd rs1 rs2) = registers (codes "mul") rd rs1 rs2
syntax_of (Mulh rd rs1 rs2) = registers (codes "mulh") rd rs1 rs2
syntax_of (Mulhsu rd rs1 rs2) = registers (codes "mulhsu") rd rs1 rs2
syntax_of (Mulhu rd rs1 rs2) = registers (codes "mulhu") rd rs1 rs2
syntax_of (Div rd rs1 rs2) = registers (codes "div") rd rs1 rs2
syntax_of (Divu rd rs1 rs2) = registers (codes "divu") rd rs1 rs2
syntax_of (Rem rd rs1 rs2) = registers (codes "rem") rd rs1 rs2
syntax_of (Remu rd rs1 rs2) = registers (codes "remu") rd rs1 rs2
syntax_of (Addw rd rs1 rs2) = registers (codes "addw") rd rs1 rs2
syntax_of (Subw rd rs1 rs2) = registers (codes "subw") rd rs1 rs2
syntax_of (Sllw rd rs1 rs2) = registers (codes "sllw") rd rs1 rs2
syntax_of (Srlw rd rs1 rs2) = registers (codes "srlw") rd rs1 rs2
syntax_of (Sraw rd rs1 rs2) = registers (codes "sraw") rd rs1 rs2
syntax_of (Mulw rd rs1 rs2) = registers (codes "mulw") rd rs1 rs2
syntax_of (Divw rd rs1 rs2) = registers (codes "divw") rd rs1 rs2
syntax_of (Divuw rd rs1 rs2) = registers (codes "divuw") rd rs1 rs2
syntax_of (Remw rd rs1 rs2) = registers (codes "remw") rd rs1 rs2
syntax_of (Remuw rd rs1 rs2) = registers (codes "remuw") rd rs1 rs2
syntax_of (Fence rd rs1 fields) = fence (codes "fence") fields rs1 rd
syntax_of (FenceI rd rs1 fields) = fence (codes "fence.i") fields rs1 rd
syntax_of Ecall = bare (codes "ecall")
syntax_of Ebreak = bare (codes "ebreak")
syntax_of Mret = bare (codes "mret")
syntax_of Wfi = bare (codes "wfi")
syntax_of (Csrrw rd rs1 csr) = csr_register (codes "csrrw") rd csr rs1
syntax_of (Csrrs rd rs1 csr) = csr_register (codes "csrrs") rd csr rs1
syntax_of (Csrrc rd rs1 csr) = csr_register (codes "csrrc") rd csr rs1
syntax_of (Csrrwi rd imm csr) = csr_immediate (codes "csrrwi") rd csr imm
syntax_of (Csrrsi rd imm csr) = csr_immediate (codes "csrrsi") rd csr imm
syntax_of (Csrrci rd imm csr) = csr_immediate (codes "csrrci") rd csr imm

-- the printed line of a name and operands: one space behind the name and each comma
abbrev pub syntax_text : Syntax → List ℕ
syntax_text s = join_with_byte 32 (s.name ∷ operand_words s.operands)
