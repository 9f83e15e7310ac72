-- The control and status registers of machine mode, by the RISC-V Privileged Architecture, 2.2, 3.1.6 and 3.1.9.
-- Their numbers and bits are in src/registers.rt.
use Rattle.std.specs.Prelude.{ℕ, ◌+◌, ◌-◌, ◌*◌, ◌/◌, ◌%◌, ◌^◌, Bool, true, false, ◌==◌, if◌then◌else◌, Option, Some, None, bit_and}
use Rattle.hv_kinds.specs.Pins.{pending_bits}
use Rattle.hv_exec.specs.declared.context.Ctx.{Ctx}
use Rattle.hv_trap.specs.declared.csr.Csr.{Csr}
use Rattle.hv_trap.specs.declared.csr.Csr.TheVariants.{Mstatus, Mie, Mtvec, Mscratch, Mepc, Mcause, Mtval, Mip, Mhartid}
use Rattle.hv_trap.specs.declared.registers.TheConstants.{MACHINE_MODE, MCAUSE, MEI, MEPC, MHARTID, MIE, MIP, MSCRATCH, MSI, MSTATUS, MSTATUS_MIE, MSTATUS_MPIE, MSTATUS_MPP, MTI, MTVAL, MTVEC}

-- a bit of a word is set
abbrev pub is_set : ℕ → ℕ → Bool
is_set word k = word / 2 ^ k % 2 == 1

-- the register of a number, of which there is none where no such register exists
abbrev pub csr_of : ℕ → Option Csr
csr_of number =
    if number == MSTATUS then Some Mstatus
    else if number == MIE then Some Mie
    else if number == MTVEC then Some Mtvec
    else if number == MSCRATCH then Some Mscratch
    else if number == MEPC then Some Mepc
    else if number == MCAUSE then Some Mcause
    else if number == MTVAL then Some Mtval
    else if number == MIP then Some Mip
    else if number == MHARTID then Some Mhartid
    else None

-- MIE of mstatus says that interrupts are taken
abbrev pub is_enabled : Ctx → Bool
is_enabled ctx = is_set ctx.mstatus MSTATUS_MIE

-- MPIE of mstatus keeps MIE during a trap
abbrev pub was_enabled : Ctx → Bool
was_enabled ctx = is_set ctx.mstatus MSTATUS_MPIE

-- mstatus with these MIE and MPIE
abbrev pub status : Bool → Bool → ℕ
status enabled previous = (if enabled then 2 ^ MSTATUS_MIE else 0) + (if previous then 2 ^ MSTATUS_MPIE else 0)

-- mstatus as it is read: MPP is machine mode
abbrev pub mstatus_of : Ctx → ℕ
mstatus_of ctx = status (is_enabled ctx) (was_enabled ctx) + MACHINE_MODE * 2 ^ MSTATUS_MPP

-- what a register reads
abbrev pub read : Ctx → Csr → ℕ
read ctx Mstatus = mstatus_of ctx
read ctx Mie = ctx.mie
read ctx Mtvec = ctx.mtvec
read ctx Mscratch = ctx.mscratch
read ctx Mepc = ctx.mepc
read ctx Mcause = ctx.mcause
read ctx Mtval = ctx.mtval
read ctx Mip = pending_bits ctx.pins
read ctx Mhartid = ctx.hartid

-- an address without its lowest two bits
abbrev pub word_aligned : ℕ → ℕ
word_aligned address = address - address % 4

-- the context after a write: mstatus keeps MIE and MPIE, mie a bit for each interrupt, and mip follows the pins
abbrev pub written : Ctx → Csr → ℕ → Ctx
written ctx Mstatus value = record ctx { mstatus = status (is_set value MSTATUS_MIE) (is_set value MSTATUS_MPIE) }
written ctx Mie value = record ctx { mie = bit_and value (2 ^ MSI + 2 ^ MTI + 2 ^ MEI) }
written ctx Mtvec value = record ctx { mtvec = word_aligned value }
written ctx Mscratch value = record ctx { mscratch = value }
written ctx Mepc value = record ctx { mepc = word_aligned value }
written ctx Mcause value = record ctx { mcause = value }
written ctx Mtval value = record ctx { mtval = value }
written ctx Mip value = ctx
written ctx Mhartid value = ctx

-- a register that is never written
abbrev pub is_read_only : Csr → Bool
is_read_only Mstatus = false
is_read_only Mie = false
is_read_only Mtvec = false
is_read_only Mscratch = false
is_read_only Mepc = false
is_read_only Mcause = false
is_read_only Mtval = false
is_read_only Mip = false
is_read_only Mhartid = true
