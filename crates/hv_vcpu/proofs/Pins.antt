-- An instruction and a trap leave the pins of a context.
use Rattle.std.proofs.Common.{◌≡◌, ℕ, ◌%◌, ◌==◌, Bool, true, false, ◌&&◌, if◌then◌else◌, refl, ◌∙◌}
use Rattle.std.specs.Prelude.{Option, Some, None, slice_set, bit_and}
use Rattle.hv_exec.specs.Context.{with_register, advanced, at, next_pc}
use Rattle.hv_exec.specs.Meaning.{meaning, effect, landed, stays, done, holds, offset_from, after_load}
use Rattle.hv_exec.specs.Operation.{operation_of}
use Rattle.hv_exec.specs.declared.context.After.TheVariants.{Trap, Wait}
use Rattle.hv_exec.specs.declared.context.Ctx.{Ctx}
use Rattle.hv_exec.specs.declared.inst.Inst.{Inst}
use Rattle.hv_exec.specs.declared.inst.Inst.TheVariants.{Mret, Csrrw, Csrrs, Csrrc, Csrrwi, Csrrsi, Csrrci}
use Rattle.hv_exec.specs.declared.operation.Operation.{Operation}
use Rattle.hv_exec.specs.declared.operation.Operation.TheVariants.{Compute, Jump, JumpRegister, Branch, Read, Write, Skip, Raise, Sleep, Privileged}
use Rattle.hv_trap.specs.Csr.{written, is_read_only, read}
use Rattle.hv_trap.specs.Trap.{system_meaning, accessed, changed, writes, trapped, illegal}
use Rattle.hv_trap.specs.declared.csr.Change.{Change}
use Rattle.hv_trap.specs.declared.csr.Change.TheVariants.{Keep, Replace, Set, Clear}
use Rattle.hv_trap.specs.declared.csr.Csr.{Csr}
use Rattle.hv_trap.specs.declared.csr.Csr.TheVariants.{Mstatus, Mie, Mtvec, Mscratch, Mepc, Mcause, Mtval, Mip, Mhartid}

register : (ctx : Ctx) (number value : ℕ) → (with_register ctx number value).pins ≡ ctx.pins
register ctx number value =
    elim (number == 0) as (λ b. (if b then ctx else record ctx { x = slice_set ctx.x number value }).pins ≡ ctx.pins) [ true ↦ refl | false ↦ refl ]

land : (ctx : Ctx) (target : ℕ) (after : Ctx) → after.pins ≡ ctx.pins → (landed ctx target after).context.pins ≡ ctx.pins
land ctx target after same =
    elim (target % 4 == 0) as (λ b. (if b then done (at after target) else stays ctx (Trap 0 target)).context.pins ≡ ctx.pins) [ true ↦ same | false ↦ refl ]

work : (ctx : Ctx) (operation : Operation) → (effect ctx operation).context.pins ≡ ctx.pins
unfolding effect
work ctx (Compute rd how left right) = register ctx rd _
work ctx (Jump rd offset) = land ctx _ (with_register ctx rd (next_pc ctx)) (register ctx rd (next_pc ctx))
work ctx (JumpRegister rd rs1 imm) = land ctx _ (with_register ctx rd (next_pc ctx)) (register ctx rd (next_pc ctx))
work ctx (Branch when rs1 rs2 offset) =
    elim (holds when _ _) as (λ b. (if b then landed ctx (offset_from ctx.pc offset) ctx else done (advanced ctx)).context.pins ≡ ctx.pins) [
      | true ↦ land ctx (offset_from ctx.pc offset) ctx refl
      | false ↦ refl
    ]
work ctx (Read size is_signed rd rs1 imm) = refl
work ctx (Write size rs1 rs2 imm) = refl
work ctx Skip = refl
work ctx (Raise cause) = refl
work ctx Sleep =
    elim (bit_and _ ctx.mie == 0) as (λ b. (if b then stays (advanced ctx) Wait else done (advanced ctx)).context.pins ≡ ctx.pins) [ true ↦ refl | false ↦ refl ]
work ctx Privileged = refl

pub meaning_keeps_pins : (ctx : Ctx) (inst : Inst) → (meaning ctx inst).context.pins ≡ ctx.pins
unfolding meaning
meaning_keeps_pins ctx inst = work ctx (operation_of inst)

write : (ctx : Ctx) (csr : Csr) (value : ℕ) → (written ctx csr value).pins ≡ ctx.pins
write ctx Mstatus value = refl
write ctx Mie value = refl
write ctx Mtvec value = refl
write ctx Mscratch value = refl
write ctx Mepc value = refl
write ctx Mcause value = refl
write ctx Mtval value = refl
write ctx Mip value = refl
write ctx Mhartid value = refl

change : (ctx : Ctx) (csr : Csr) (how : Change) (operand : ℕ) → (changed ctx csr how operand).pins ≡ ctx.pins
change ctx csr Keep operand = refl
change ctx csr Replace operand = write ctx csr _
change ctx csr Set operand = write ctx csr _
change ctx csr Clear operand = write ctx csr _

access : (ctx : Ctx) (rd : ℕ) (csr : Option Csr) (how : Change) (operand word : ℕ) → (accessed ctx rd csr how operand word).context.pins ≡ ctx.pins
access ctx rd None how operand word = refl
access ctx rd (Some csr) how operand word =
    elim (writes how && is_read_only csr) as (λ b. (if b then illegal ctx word else done (advanced (with_register (changed ctx csr how operand) rd (read ctx csr)))).context.pins ≡ ctx.pins) [
      | true ↦ refl
      | false ↦ register (changed ctx csr how operand) rd (read ctx csr) ∙ change ctx csr how operand
    ]

pub system_keeps_pins : (ctx : Ctx) (inst : Inst) → (system_meaning ctx inst).context.pins ≡ ctx.pins
unfolding system_meaning
system_keeps_pins ctx Mret = refl
system_keeps_pins ctx (Csrrw rd rs1 csr) = access ctx rd _ _ _ _
system_keeps_pins ctx (Csrrs rd rs1 csr) = access ctx rd _ _ _ _
system_keeps_pins ctx (Csrrc rd rs1 csr) = access ctx rd _ _ _ _
system_keeps_pins ctx (Csrrwi rd imm csr) = access ctx rd _ _ _ _
system_keeps_pins ctx (Csrrsi rd imm csr) = access ctx rd _ _ _ _
system_keeps_pins ctx (Csrrci rd imm csr) = access ctx rd _ _ _ _
system_keeps_pins ctx _ = refl

pub trap_keeps_pins : (ctx : Ctx) (cause value : ℕ) → (trapped ctx cause value).pins ≡ ctx.pins
unfolding trapped
trap_keeps_pins ctx cause value = refl

pub load_keeps_pins : (ctx : Ctx) (size : ℕ) (is_signed : Bool) (rd value : ℕ) → (after_load ctx size is_signed rd value).pins ≡ ctx.pins
unfolding after_load
load_keeps_pins ctx size is_signed rd value = register ctx rd _
