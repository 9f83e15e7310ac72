-- A whole instruction, but for the access of a load or a store, from the meanings of its parts.
use Rattle.std.specs.Prelude.{◌≡◌, ⊤, ℕ, ◌*◌, ◌%◌, ◌^◌, ◌<◌, ◌==◌, Bool, true, false, if◌then◌else◌, Option, Some, None}
use Rattle.hv_exec.specs.Meaning.{Outcome, stays, meaning}
use Rattle.hv_exec.specs.Operation.{IsSize}
use Rattle.hv_exec.specs.declared.causes.TheConstants.{LOAD_ADDRESS_MISALIGNED, STORE_ADDRESS_MISALIGNED}
use Rattle.hv_exec.specs.declared.context.After.{After}
use Rattle.hv_exec.specs.declared.context.After.TheVariants.{Done, Load, Store, Trap, Wait, System}
use Rattle.hv_exec.specs.declared.context.Ctx.{Ctx}
use Rattle.hv_exec.specs.declared.inst.Inst.{Inst}
use Rattle.hv_isa.specs.Table.{decoded}
use Rattle.hv_trap.specs.Trap.{illegal, system_meaning, trapped}

-- Whether the instruction is left to its meaning as a system instruction.
abbrev pub is_system : After → Bool
is_system System = true
is_system _ = false

-- An instruction by its own meaning.
abbrev pub performed : Ctx → Inst → Outcome
performed ctx inst = if is_system (meaning ctx inst).answer then system_meaning ctx inst else meaning ctx inst

-- An access at an address that is no multiple of its size is an exception, with the address: 4 of a load, 6 of a store.
abbrev pub aligned : Outcome → After → Outcome
aligned out (Load address size is_signed rd) = if address % size == 0 then out else stays out.context (Trap LOAD_ADDRESS_MISALIGNED address)
aligned out (Store address size value) = if address % size == 0 then out else stays out.context (Trap STORE_ADDRESS_MISALIGNED address)
aligned out _ = out

-- What a word does up to the entry of a trap; a word that is no instruction is illegal.
abbrev pub attempted_as : Ctx → ℕ → Option Inst → Outcome
attempted_as ctx word None = illegal ctx word
attempted_as ctx word (Some inst) = aligned (performed ctx inst) (performed ctx inst).answer

abbrev pub attempted : Ctx → ℕ → Outcome
attempted ctx word = attempted_as ctx word (decoded word)

-- A trap is entered.
abbrev pub entered : After → Ctx → Ctx
entered (Trap cause value) ctx = trapped ctx cause value
entered _ ctx = ctx

-- What a word does.
unfoldable pub carried_out : Ctx → ℕ → Outcome
carried_out ctx word = record { context = entered (attempted ctx word).answer (attempted ctx word).context; answer = (attempted ctx word).answer }

-- An access has a size, an address that is a multiple of it, and a register or a value of that size.
abbrev pub IsAccess : After → Type 0
IsAccess (Load address size is_signed rd) = IsSize size × (rd < 32) × (address % size ≡ 0)
IsAccess (Store address size value) = IsSize size × (value < 2 ^ (8 * size)) × (address % size ≡ 0)
IsAccess _ = ⊤

-- Up to the entry of a trap: an access and a trap leave the context, and nothing is left to a system instruction.
abbrev pub IsAttempted : Ctx → Ctx → After → Type 0
IsAttempted old new (Load address size is_signed rd) = (new ≡ old) × IsAccess (Load address size is_signed rd)
IsAttempted old new (Store address size value) = (new ≡ old) × IsAccess (Store address size value)
IsAttempted old new (Trap cause value) = new ≡ old
IsAttempted old new System = ⊥
IsAttempted old new Done = ⊤
IsAttempted old new Wait = ⊤

-- The same with the trap entered.
abbrev pub IsCarriedOut : Ctx → Ctx → After → Type 0
IsCarriedOut old new (Trap cause value) = new ≡ trapped old cause value
IsCarriedOut old new after = IsAttempted old new after
