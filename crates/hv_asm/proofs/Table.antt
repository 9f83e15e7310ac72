-- The table read the other way around: each instruction is found by its name and operands.
use Rattle.std.proofs.Common.{◌≡◌, ℕ, Bool, true, false, cond, List, Option, Some, None, refl, ap, arith, ltb, ltb-true, get_or}
use Rattle.std.specs.Prelude.{codes, pos}
use Rattle.std.specs.Option.{option_or}
use Rattle.hv_exec.specs.Fields.{IsWellFormed}
use Rattle.hv_exec.specs.declared.inst.Inst.{Inst}
use Rattle.hv_exec.specs.declared.inst.Inst.TheVariants.{Lui, Auipc, Jal, Jalr, Lb, Lh, Lw, Ld, Lbu, Lhu, Lwu, Sb, Sh, Sw, Sd, Beq, Bne, Blt, Bge, Bltu, Bgeu, Addi, Slti, Sltiu, Xori, Ori, Andi, Addiw, Slli, Srli, Srai, Slliw, Srliw, Sraiw, Add, Sub, Sll, Slt, Sltu, Xor, Srl, Sra, Or, And, Mul, Mulh, Mulhsu, Mulhu, Div, Divu, Rem, Remu, Addw, Subw, Sllw, Srlw, Sraw, Mulw, Divw, Divuw, Remw, Remuw, Fence, FenceI, Ecall, Ebreak, Mret, Wfi, Csrrw, Csrrs, Csrrc, Csrrwi, Csrrsi, Csrrci}
use Rattle.hv_asm.specs.Candidates.{named}
use Rattle.hv_asm.specs.Reading.{HaveRegisters, all_as_read}
use Rattle.hv_asm.specs.Forms.{instruction_of}
use Rattle.hv_asm.specs.Syntax.{syntax_of}
use Rattle.hv_asm.proofs.Ranges.{fits_12, immediate_fits, fits_13, branch_fits, fits_21, jump_fits, fits_below, below_fits}

-- where a test has the same answer either way, what follows is asked
later : (test : Bool) (more : Option Inst) → option_or (cond test None None) more ≡ more
later true more = refl
later false more = refl

-- each instruction is that of its name and operands
pub complete : (i : Inst) → IsWellFormed i → instruction_of (syntax_of i).name (all_as_read (syntax_of i).operands) ≡ Some i
unfolding instruction_of named IsWellFormed
complete Ecall h = refl
complete Ebreak h = refl
complete Mret h = refl
complete Wfi h = refl
complete (Add d s t) h = refl
complete (Sub d s t) h = refl
complete (Sll d s t) h = refl
complete (Slt d s t) h = refl
complete (Sltu d s t) h = refl
complete (Xor d s t) h = refl
complete (Srl d s t) h = refl
complete (Sra d s t) h = refl
complete (Or d s t) h = refl
complete (And d s t) h = refl
complete (Mul d s t) h = refl
complete (Mulh d s t) h = refl
complete (Mulhsu d s t) h = refl
complete (Mulhu d s t) h = refl
complete (Div d s t) h = refl
complete (Divu d s t) h = refl
complete (Rem d s t) h = refl
complete (Remu d s t) h = refl
complete (Addw d s t) h = refl
complete (Subw d s t) h = refl
complete (Sllw d s t) h = refl
complete (Srlw d s t) h = refl
complete (Sraw d s t) h = refl
complete (Mulw d s t) h = refl
complete (Divw d s t) h = refl
complete (Divuw d s t) h = refl
complete (Remw d s t) h = refl
complete (Remuw d s t) h = refl
complete (Addi d s z) h = rw (immediate_fits z h.immediate_fits) refl
complete (Slti d s z) h = rw (immediate_fits z h.immediate_fits) refl
complete (Sltiu d s z) h = rw (immediate_fits z h.immediate_fits) refl
complete (Xori d s z) h = rw (immediate_fits z h.immediate_fits) refl
complete (Ori d s z) h = rw (immediate_fits z h.immediate_fits) refl
complete (Andi d s z) h = rw (immediate_fits z h.immediate_fits) refl
complete (Addiw d s z) h = rw (immediate_fits z h.immediate_fits) refl
complete (Beq s t z) h = rw (later (fits_12 z), branch_fits z h.2) refl
complete (Bne s t z) h = rw (later (fits_12 z), branch_fits z h.2) refl
complete (Blt s t z) h = rw (later (fits_12 z), branch_fits z h.2) refl
complete (Bge s t z) h = rw (later (fits_12 z), branch_fits z h.2) refl
complete (Bltu s t z) h = rw (later (fits_12 z), branch_fits z h.2) refl
complete (Bgeu s t z) h = rw (later (fits_12 z), branch_fits z h.2) refl
complete (Slli d s by) h = rw (later (fits_12 (pos by)), later (fits_13 (pos by)), below_fits 64 by h.third_fits) refl
complete (Srli d s by) h = rw (later (fits_12 (pos by)), later (fits_13 (pos by)), below_fits 64 by h.third_fits) refl
complete (Srai d s by) h = rw (later (fits_12 (pos by)), later (fits_13 (pos by)), below_fits 64 by h.third_fits) refl
complete (Slliw d s by) h = rw (later (fits_12 (pos by)), later (fits_13 (pos by)), later (fits_below 64 (pos by)), below_fits 32 by h.third_fits) refl
complete (Srliw d s by) h = rw (later (fits_12 (pos by)), later (fits_13 (pos by)), later (fits_below 64 (pos by)), below_fits 32 by h.third_fits) refl
complete (Sraiw d s by) h = rw (later (fits_12 (pos by)), later (fits_13 (pos by)), later (fits_below 64 (pos by)), below_fits 32 by h.third_fits) refl
complete (Jalr d s z) h = rw (immediate_fits z h.immediate_fits) refl
complete (Lb d s z) h = rw (immediate_fits z h.immediate_fits) refl
complete (Lh d s z) h = rw (immediate_fits z h.immediate_fits) refl
complete (Lw d s z) h = rw (immediate_fits z h.immediate_fits) refl
complete (Ld d s z) h = rw (immediate_fits z h.immediate_fits) refl
complete (Lbu d s z) h = rw (immediate_fits z h.immediate_fits) refl
complete (Lhu d s z) h = rw (immediate_fits z h.immediate_fits) refl
complete (Lwu d s z) h = rw (immediate_fits z h.immediate_fits) refl
complete (Sb s t z) h = rw (later (fits_12 z), immediate_fits z h.immediate_fits) refl
complete (Sh s t z) h = rw (later (fits_12 z), immediate_fits z h.immediate_fits) refl
complete (Sw s t z) h = rw (later (fits_12 z), immediate_fits z h.immediate_fits) refl
complete (Sd s t z) h = rw (later (fits_12 z), immediate_fits z h.immediate_fits) refl
complete (Jal d z) h = rw (jump_fits z h.1) refl
complete (Lui d imm) h = rw (later (fits_21 (pos imm)), below_fits 1048576 imm h.1) refl
complete (Auipc d imm) h = rw (later (fits_21 (pos imm)), below_fits 1048576 imm h.1) refl
complete (Csrrw d s csr) h = rw (below_fits 4096 csr h.third_fits) refl
complete (Csrrs d s csr) h = rw (below_fits 4096 csr h.third_fits) refl
complete (Csrrc d s csr) h = rw (below_fits 4096 csr h.third_fits) refl
complete (Csrrwi d imm csr) h = rw (below_fits 4096 csr h.third_fits, below_fits 32 imm h.second_fits) refl
complete (Csrrsi d imm csr) h = rw (below_fits 4096 csr h.third_fits, below_fits 32 imm h.second_fits) refl
complete (Csrrci d imm csr) h = rw (below_fits 4096 csr h.third_fits, below_fits 32 imm h.second_fits) refl
complete (Fence d s fields) h = rw (below_fits 4096 fields h.third_fits) refl
complete (FenceI d s fields) h = rw (below_fits 4096 fields h.third_fits) refl

-- the name of each instruction begins with a letter
pub begins_with_letter : (i : Inst) → ltb 46 (get_or (syntax_of i).name 0 0) ≡ true
begins_with_letter (Lui a b) = refl
begins_with_letter (Auipc a b) = refl
begins_with_letter (Jal a b) = refl
begins_with_letter (Jalr a b c) = refl
begins_with_letter (Lb a b c) = refl
begins_with_letter (Lh a b c) = refl
begins_with_letter (Lw a b c) = refl
begins_with_letter (Ld a b c) = refl
begins_with_letter (Lbu a b c) = refl
begins_with_letter (Lhu a b c) = refl
begins_with_letter (Lwu a b c) = refl
begins_with_letter (Sb a b c) = refl
begins_with_letter (Sh a b c) = refl
begins_with_letter (Sw a b c) = refl
begins_with_letter (Sd a b c) = refl
begins_with_letter (Beq a b c) = refl
begins_with_letter (Bne a b c) = refl
begins_with_letter (Blt a b c) = refl
begins_with_letter (Bge a b c) = refl
begins_with_letter (Bltu a b c) = refl
begins_with_letter (Bgeu a b c) = refl
begins_with_letter (Addi a b c) = refl
begins_with_letter (Slti a b c) = refl
begins_with_letter (Sltiu a b c) = refl
begins_with_letter (Xori a b c) = refl
begins_with_letter (Ori a b c) = refl
begins_with_letter (Andi a b c) = refl
begins_with_letter (Addiw a b c) = refl
begins_with_letter (Slli a b c) = refl
begins_with_letter (Srli a b c) = refl
begins_with_letter (Srai a b c) = refl
begins_with_letter (Slliw a b c) = refl
begins_with_letter (Srliw a b c) = refl
begins_with_letter (Sraiw a b c) = refl
begins_with_letter (Add a b c) = refl
begins_with_letter (Sub a b c) = refl
begins_with_letter (Sll a b c) = refl
begins_with_letter (Slt a b c) = refl
begins_with_letter (Sltu a b c) = refl
begins_with_letter (Xor a b c) = refl
begins_with_letter (Srl a b c) = refl
begins_with_letter (Sra a b c) = refl
begins_with_letter (Or a b c) = refl
begins_with_letter (And a b c) = refl
begins_with_letter (Mul a b c) = refl
begins_with_letter (Mulh a b c) = refl
begins_with_letter (Mulhsu a b c) = refl
begins_with_letter (Mulhu a b c) = refl
begins_with_letter (Div a b c) = refl
begins_with_letter (Divu a b c) = refl
begins_with_letter (Rem a b c) = refl
begins_with_letter (Remu a b c) = refl
begins_with_letter (Addw a b c) = refl
begins_with_letter (Subw a b c) = refl
begins_with_letter (Sllw a b c) = refl
begins_with_letter (Srlw a b c) = refl
begins_with_letter (Sraw a b c) = refl
begins_with_letter (Mulw a b c) = refl
begins_with_letter (Divw a b c) = refl
begins_with_letter (Divuw a b c) = refl
begins_with_letter (Remw a b c) = refl
begins_with_letter (Remuw a b c) = refl
begins_with_letter (Fence a b c) = refl
begins_with_letter (FenceI a b c) = refl
begins_with_letter Ecall = refl
begins_with_letter Ebreak = refl
begins_with_letter Mret = refl
begins_with_letter Wfi = refl
begins_with_letter (Csrrw a b c) = refl
begins_with_letter (Csrrs a b c) = refl
begins_with_letter (Csrrc a b c) = refl
begins_with_letter (Csrrwi a b c) = refl
begins_with_letter (Csrrsi a b c) = refl
begins_with_letter (Csrrci a b c) = refl

-- so it isn't the name of a word by its number
pub not_literal : (i : Inst) → (syntax_of i).name ≡ codes ".word" → ⊥
not_literal i is = omega (arith, ltb-true 46 (get_or (syntax_of i).name 0 0) (begins_with_letter i), ap (λ (t : List ℕ). get_or t 0 0) is)

-- the operands of an instruction name registers that exist
pub fit_fields : (i : Inst) → IsWellFormed i → HaveRegisters (syntax_of i).operands
unfolding IsWellFormed
fit_fields Ecall h = tt
fit_fields Ebreak h = tt
fit_fields Mret h = tt
fit_fields Wfi h = tt
fit_fields (Add d s t) h = (h.first_fits, h.second_fits, h.third_fits)
fit_fields (Sub d s t) h = (h.first_fits, h.second_fits, h.third_fits)
fit_fields (Sll d s t) h = (h.first_fits, h.second_fits, h.third_fits)
fit_fields (Slt d s t) h = (h.first_fits, h.second_fits, h.third_fits)
fit_fields (Sltu d s t) h = (h.first_fits, h.second_fits, h.third_fits)
fit_fields (Xor d s t) h = (h.first_fits, h.second_fits, h.third_fits)
fit_fields (Srl d s t) h = (h.first_fits, h.second_fits, h.third_fits)
fit_fields (Sra d s t) h = (h.first_fits, h.second_fits, h.third_fits)
fit_fields (Or d s t) h = (h.first_fits, h.second_fits, h.third_fits)
fit_fields (And d s t) h = (h.first_fits, h.second_fits, h.third_fits)
fit_fields (Mul d s t) h = (h.first_fits, h.second_fits, h.third_fits)
fit_fields (Mulh d s t) h = (h.first_fits, h.second_fits, h.third_fits)
fit_fields (Mulhsu d s t) h = (h.first_fits, h.second_fits, h.third_fits)
fit_fields (Mulhu d s t) h = (h.first_fits, h.second_fits, h.third_fits)
fit_fields (Div d s t) h = (h.first_fits, h.second_fits, h.third_fits)
fit_fields (Divu d s t) h = (h.first_fits, h.second_fits, h.third_fits)
fit_fields (Rem d s t) h = (h.first_fits, h.second_fits, h.third_fits)
fit_fields (Remu d s t) h = (h.first_fits, h.second_fits, h.third_fits)
fit_fields (Addw d s t) h = (h.first_fits, h.second_fits, h.third_fits)
fit_fields (Subw d s t) h = (h.first_fits, h.second_fits, h.third_fits)
fit_fields (Sllw d s t) h = (h.first_fits, h.second_fits, h.third_fits)
fit_fields (Srlw d s t) h = (h.first_fits, h.second_fits, h.third_fits)
fit_fields (Sraw d s t) h = (h.first_fits, h.second_fits, h.third_fits)
fit_fields (Mulw d s t) h = (h.first_fits, h.second_fits, h.third_fits)
fit_fields (Divw d s t) h = (h.first_fits, h.second_fits, h.third_fits)
fit_fields (Divuw d s t) h = (h.first_fits, h.second_fits, h.third_fits)
fit_fields (Remw d s t) h = (h.first_fits, h.second_fits, h.third_fits)
fit_fields (Remuw d s t) h = (h.first_fits, h.second_fits, h.third_fits)
fit_fields (Addi d s z) h = (h.first_fits, h.second_fits, tt)
fit_fields (Slti d s z) h = (h.first_fits, h.second_fits, tt)
fit_fields (Sltiu d s z) h = (h.first_fits, h.second_fits, tt)
fit_fields (Xori d s z) h = (h.first_fits, h.second_fits, tt)
fit_fields (Ori d s z) h = (h.first_fits, h.second_fits, tt)
fit_fields (Andi d s z) h = (h.first_fits, h.second_fits, tt)
fit_fields (Addiw d s z) h = (h.first_fits, h.second_fits, tt)
fit_fields (Beq s t z) h = (h.0, h.1, tt)
fit_fields (Bne s t z) h = (h.0, h.1, tt)
fit_fields (Blt s t z) h = (h.0, h.1, tt)
fit_fields (Bge s t z) h = (h.0, h.1, tt)
fit_fields (Bltu s t z) h = (h.0, h.1, tt)
fit_fields (Bgeu s t z) h = (h.0, h.1, tt)
fit_fields (Slli d s by) h = (h.first_fits, h.second_fits, tt)
fit_fields (Srli d s by) h = (h.first_fits, h.second_fits, tt)
fit_fields (Srai d s by) h = (h.first_fits, h.second_fits, tt)
fit_fields (Slliw d s by) h = (h.first_fits, h.second_fits, tt)
fit_fields (Srliw d s by) h = (h.first_fits, h.second_fits, tt)
fit_fields (Sraiw d s by) h = (h.first_fits, h.second_fits, tt)
fit_fields (Jalr d s z) h = (h.first_fits, h.second_fits)
fit_fields (Lb d s z) h = (h.first_fits, h.second_fits)
fit_fields (Lh d s z) h = (h.first_fits, h.second_fits)
fit_fields (Lw d s z) h = (h.first_fits, h.second_fits)
fit_fields (Ld d s z) h = (h.first_fits, h.second_fits)
fit_fields (Lbu d s z) h = (h.first_fits, h.second_fits)
fit_fields (Lhu d s z) h = (h.first_fits, h.second_fits)
fit_fields (Lwu d s z) h = (h.first_fits, h.second_fits)
fit_fields (Sb s t z) h = (h.second_fits, h.first_fits)
fit_fields (Sh s t z) h = (h.second_fits, h.first_fits)
fit_fields (Sw s t z) h = (h.second_fits, h.first_fits)
fit_fields (Sd s t z) h = (h.second_fits, h.first_fits)
fit_fields (Jal d z) h = (h.0, tt)
fit_fields (Lui d imm) h = (h.0, tt)
fit_fields (Auipc d imm) h = (h.0, tt)
fit_fields (Csrrw d s csr) h = (h.first_fits, tt, h.second_fits)
fit_fields (Csrrs d s csr) h = (h.first_fits, tt, h.second_fits)
fit_fields (Csrrc d s csr) h = (h.first_fits, tt, h.second_fits)
fit_fields (Csrrwi d imm csr) h = (h.first_fits, tt, tt)
fit_fields (Csrrsi d imm csr) h = (h.first_fits, tt, tt)
fit_fields (Csrrci d imm csr) h = (h.first_fits, tt, tt)
fit_fields (Fence d s fields) h = (tt, h.second_fits, h.first_fits)
fit_fields (FenceI d s fields) h = (tt, h.second_fits, h.first_fits)
