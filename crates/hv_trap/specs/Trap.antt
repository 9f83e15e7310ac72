-- CSR instructions, traps and interrupts in machine mode, by the RISC-V Privileged Architecture, 3.1.6, 3.1.9, 3.1.15.
use Rattle.std.specs.Prelude.{◌≡◌, ℕ, ◌+◌, ◌-◌, ◌*◌, ◌^◌, ⊤, Bool, true, false, not, ◌&&◌, ◌==◌, if◌then◌else◌, Option, Some, None, bit_and, bit_or}
use Rattle.hv_exec.specs.Context.{register_of, with_register, advanced}
use Rattle.hv_exec.specs.Meaning.{Outcome, done, stays}
use Rattle.hv_exec.specs.declared.causes.TheConstants.{ILLEGAL_INSTRUCTION, INTERRUPT, MACHINE_EXTERNAL_INTERRUPT, MACHINE_SOFTWARE_INTERRUPT, MACHINE_TIMER_INTERRUPT}
use Rattle.hv_exec.specs.declared.context.After.{After}
use Rattle.hv_exec.specs.declared.context.After.TheVariants.{Done, Load, Store, Trap, Wait, System}
use Rattle.hv_exec.specs.declared.context.Ctx.{Ctx}
use Rattle.hv_exec.specs.declared.inst.Inst.{Inst}
use Rattle.hv_exec.specs.declared.inst.Inst.TheVariants.{Mret, Csrrw, Csrrs, Csrrc, Csrrwi, Csrrsi, Csrrci}
use Rattle.hv_exec.specs.declared.functs.TheConstants.{CSRRC, CSRRCI, CSRRS, CSRRSI, CSRRW, CSRRWI}
use Rattle.hv_exec.specs.declared.opcodes.TheConstants.{SYSTEM}
use Rattle.hv_trap.specs.Csr.{is_set, is_enabled, was_enabled, status, csr_of, read, written, is_read_only}
use Rattle.hv_trap.specs.declared.csr.Change.{Change}
use Rattle.hv_trap.specs.declared.csr.Change.TheVariants.{Keep, Replace, Set, Clear}
use Rattle.hv_trap.specs.declared.csr.Csr.{Csr}
use Rattle.hv_trap.specs.declared.registers.TheConstants.{MEI, MSI, MTI}

-- an illegal instruction traps with its word
abbrev pub illegal : Ctx → ℕ → Outcome
illegal ctx word = stays ctx (Trap ILLEGAL_INSTRUCTION word)

-- the context after a change of a register
abbrev pub changed : Ctx → Csr → Change → ℕ → Ctx
changed ctx csr Keep operand = ctx
changed ctx csr Replace operand = written ctx csr operand
changed ctx csr Set operand = written ctx csr (bit_or (read ctx csr) operand)
changed ctx csr Clear operand = written ctx csr (bit_and (read ctx csr) (2 ^ 64 - 1 - operand))

-- a change writes
abbrev pub writes : Change → Bool
writes Keep = false
writes Replace = true
writes Set = true
writes Clear = true

-- a register is changed, and its value before goes to rd
abbrev pub accessed : Ctx → ℕ → Option Csr → Change → ℕ → ℕ → Outcome
accessed ctx rd None change operand word = illegal ctx word
accessed ctx rd (Some csr) change operand word =
    if writes change && is_read_only csr then illegal ctx word
    else done (advanced (with_register (changed ctx csr change operand) rd (read ctx csr)))

-- the change, which is none where the number of the register or of the immediate is 0
abbrev pub unless_zero : ℕ → Change → Change
unless_zero field change = if field == 0 then Keep else change

-- the word of a CSR instruction
abbrev pub csr_word : ℕ → ℕ → ℕ → ℕ → ℕ
csr_word funct3 rd field csr = SYSTEM + rd * 2 ^ 7 + funct3 * 2 ^ 12 + field * 2 ^ 15 + csr * 2 ^ 20

-- interrupts are taken again as they were before the trap, and control goes back
abbrev pub returned : Ctx → Ctx
returned ctx = record ctx { mstatus = status (was_enabled ctx) true; pc = ctx.mepc }

-- what a CSR instruction or MRET leaves and answers; no other instruction comes here
unfoldable pub system_meaning : Ctx → Inst → Outcome
system_meaning ctx Mret = done (returned ctx)
system_meaning ctx (Csrrw rd rs1 csr) =
    accessed ctx rd (csr_of csr) Replace (register_of ctx rs1) (csr_word CSRRW rd rs1 csr)
system_meaning ctx (Csrrs rd rs1 csr) =
    accessed ctx rd (csr_of csr) (unless_zero rs1 Set) (register_of ctx rs1) (csr_word CSRRS rd rs1 csr)
system_meaning ctx (Csrrc rd rs1 csr) =
    accessed ctx rd (csr_of csr) (unless_zero rs1 Clear) (register_of ctx rs1) (csr_word CSRRC rd rs1 csr)
system_meaning ctx (Csrrwi rd imm csr) =
    accessed ctx rd (csr_of csr) Replace imm (csr_word CSRRWI rd imm csr)
system_meaning ctx (Csrrsi rd imm csr) =
    accessed ctx rd (csr_of csr) (unless_zero imm Set) imm (csr_word CSRRSI rd imm csr)
system_meaning ctx (Csrrci rd imm csr) =
    accessed ctx rd (csr_of csr) (unless_zero imm Clear) imm (csr_word CSRRCI rd imm csr)
system_meaning ctx _ = stays ctx System

-- the instruction is over, or it traps and leaves the context
abbrev pub IsOver : Ctx → Ctx → After → Type 0
IsOver old new Done = ⊤
IsOver old new (Load address size is_signed rd) = ⊥
IsOver old new (Store address size value) = ⊥
IsOver old new (Trap cause value) = new ≡ old
IsOver old new Wait = ⊥
IsOver old new System = ⊥

-- the context at the handler of a trap
unfoldable pub trapped : Ctx → ℕ → ℕ → Ctx
trapped ctx cause value =
    record ctx {
      mepc = ctx.pc;
      mcause = cause;
      mtval = value;
      mstatus = status false (is_enabled ctx);
      pc = ctx.mtvec;
    }

-- the cause of an interrupt with an exception code
abbrev pub interrupt : ℕ → ℕ
interrupt code = INTERRUPT + code

-- the interrupt that is taken: external before software before timer, each where its pin and its bit of mie are set
unfoldable pub chosen : Ctx → Option ℕ
chosen ctx =
    if not (is_enabled ctx) then None
    else if ctx.pins.ext && is_set ctx.mie MEI then Some (interrupt MACHINE_EXTERNAL_INTERRUPT)
    else if ctx.pins.soft && is_set ctx.mie MSI then Some (interrupt MACHINE_SOFTWARE_INTERRUPT)
    else if ctx.pins.timer && is_set ctx.mie MTI then Some (interrupt MACHINE_TIMER_INTERRUPT)
    else None
