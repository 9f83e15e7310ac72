-- Used by proofs and private functions alone.
-- The fields that a word of each format has.
use Rattle.std.specs.Prelude.{◌≡◌, ℕ, ◌%◌, ◌^◌, ℤ}
use Rattle.hv_isa.specs.Formats.{bits, rd, rs1, rs2, i_immediate, s_immediate, b_immediate, j_immediate}

-- opcode, funct3 and two registers, in the places of rd and rs1
pub record HasHead (word opcode funct3 dest source : ℕ) : Type 0 where
  pub opcode_is : word % 2 ^ 7 ≡ opcode
  pub rd_is : rd word ≡ dest
  pub funct3_is : bits word 12 3 ≡ funct3
  pub rs1_is : rs1 word ≡ source

-- the same with rs2 and funct7
pub record IsRWord (word opcode funct3 funct7 dest one other : ℕ) : Type 0 where
  pub head : HasHead word opcode funct3 dest one
  pub rs2_is : rs2 word ≡ other
  pub funct7_is : bits word 25 7 ≡ funct7

-- a shift by an amount of six bits
pub record IsShiftWord (word opcode funct3 funct6 dest source amount : ℕ) : Type 0 where
  pub head : HasHead word opcode funct3 dest source
  pub amount_is : bits word 20 6 ≡ amount
  pub funct6_is : bits word 26 6 ≡ funct6

-- a field of twelve bits at the top
pub record IsFieldWord (word opcode funct3 dest source field : ℕ) : Type 0 where
  pub head : HasHead word opcode funct3 dest source
  pub field_is : bits word 20 12 ≡ field

-- two registers and an immediate
pub record IsIWord (word opcode funct3 dest source : ℕ) (imm : ℤ) : Type 0 where
  pub head : HasHead word opcode funct3 dest source
  pub immediate_is : i_immediate word ≡ imm

-- opcode, funct3, rs1 and rs2
pub record HasSources (word opcode funct3 one other : ℕ) : Type 0 where
  pub opcode_is : word % 2 ^ 7 ≡ opcode
  pub funct3_is : bits word 12 3 ≡ funct3
  pub rs1_is : rs1 word ≡ one
  pub rs2_is : rs2 word ≡ other

-- the same with the immediate of a store
pub record IsSWord (word opcode funct3 one other : ℕ) (imm : ℤ) : Type 0 where
  pub sources : HasSources word opcode funct3 one other
  pub immediate_is : s_immediate word ≡ imm

-- the same with the offset of a branch
pub record IsBWord (word opcode funct3 one other : ℕ) (offset : ℤ) : Type 0 where
  pub sources : HasSources word opcode funct3 one other
  pub offset_is : b_immediate word ≡ offset

-- opcode, rd and the upper twenty bits
pub record IsUWord (word opcode dest imm : ℕ) : Type 0 where
  pub opcode_is : word % 2 ^ 7 ≡ opcode
  pub rd_is : rd word ≡ dest
  pub immediate_is : bits word 12 20 ≡ imm

-- opcode, rd and the offset of a jump
pub record IsJWord (word opcode dest : ℕ) (offset : ℤ) : Type 0 where
  pub opcode_is : word % 2 ^ 7 ≡ opcode
  pub rd_is : rd word ≡ dest
  pub offset_is : j_immediate word ≡ offset
