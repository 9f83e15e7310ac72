-- What an instruction does to a context, by the RISC-V unprivileged manual.
-- `exec` tests no alignment of a load or a store: it answers the access for each address. Alignment is tested where a
-- whole instruction is carried out, and a misaligned access traps there, with LOAD_ADDRESS_MISALIGNED (4) or
-- STORE_ADDRESS_MISALIGNED (6).
use Rattle.std.specs.Prelude.{◌≡◌, ⊤, ℕ, ◌-◌, ◌*◌, ◌%◌, ◌^◌, ◌<◌, ℤ, pos, ◌+ℤ◌, Bool, not, ◌==◌, nat_lt, if◌then◌else◌, bit_and}
use Rattle.hv_exec.specs.Arithmetic.{is_less}
use Rattle.hv_exec.specs.Context.{register_of, with_register, at, advanced, next_pc}
use Rattle.hv_kinds.specs.Pins.{pending_bits}
use Rattle.hv_exec.specs.Numbers.{modulo, sign_extended}
use Rattle.hv_exec.specs.Operation.{operation_of, IsSize}
use Rattle.hv_exec.specs.Result.{result_of}
use Rattle.hv_exec.specs.declared.causes.TheConstants.{INSTRUCTION_ADDRESS_MISALIGNED}
use Rattle.hv_exec.specs.declared.context.After.{After}
use Rattle.hv_exec.specs.declared.context.After.TheVariants.{Done, Load, Store, Trap, Wait, System}
use Rattle.hv_exec.specs.declared.context.Ctx.{Ctx}
use Rattle.hv_exec.specs.declared.inst.Inst.{Inst}
use Rattle.hv_exec.specs.declared.operation.Condition.{Condition}
use Rattle.hv_exec.specs.declared.operation.Condition.TheVariants.{Equal, NotEqual, Less, NotLess, LessUnsigned, NotLessUnsigned}
use Rattle.hv_exec.specs.declared.operation.Operand.{Operand}
use Rattle.hv_exec.specs.declared.operation.Operand.TheVariants.{Register, Immediate, Amount, Upper, Pc, Zero}
use Rattle.hv_exec.specs.declared.operation.Operation.{Operation}
use Rattle.hv_exec.specs.declared.operation.Operation.TheVariants.{Compute, Jump, JumpRegister, Branch, Read, Write, Skip, Raise, Sleep, Privileged}

-- the context after an instruction, and what is left to do
pub record Outcome : Type 0 where
  pub context : Ctx
  pub answer : After

-- the instruction is over
abbrev pub done : Ctx → Outcome
done ctx = record { context = ctx; answer = Done }

-- the context stays, and something is left to do
abbrev pub stays : Ctx → After → Outcome
stays ctx answer = record { context = ctx; answer = answer }

-- the sum of a word and a signed offset
abbrev pub offset_from : ℕ → ℤ → ℕ
offset_from base offset = modulo 64 (pos base +ℤ offset)

-- the word that an operand stands for
abbrev pub value_of : Ctx → Operand → ℕ
value_of ctx (Register number) = register_of ctx number
value_of ctx (Immediate imm) = modulo 64 imm
value_of ctx (Amount amount) = amount
value_of ctx (Upper imm) = sign_extended 32 (imm * 2 ^ 12)
value_of ctx Pc = ctx.pc
value_of ctx Zero = 0

-- two words meet the condition of a branch
abbrev pub holds : Condition → ℕ → ℕ → Bool
holds Equal a b = a == b
holds NotEqual a b = not (a == b)
holds Less a b = is_less 64 a b
holds NotLess a b = not (is_less 64 a b)
holds LessUnsigned a b = nat_lt a b
holds NotLessUnsigned a b = not (nat_lt a b)

-- a result goes to a register
abbrev pub computed : Ctx → ℕ → ℕ → Outcome
computed ctx rd value = done (advanced (with_register ctx rd value))

-- control goes to a target, or traps where it is no multiple of 4
abbrev pub landed : Ctx → ℕ → Ctx → Outcome
landed ctx target after =
    if target % 4 == 0 then done (at after target)
    else stays ctx (Trap INSTRUCTION_ADDRESS_MISALIGNED target)

-- a jump leaves the address behind it in a register
abbrev pub jumped : Ctx → ℕ → ℕ → Outcome
jumped ctx rd target = landed ctx target (with_register ctx rd (next_pc ctx))

-- a branch
abbrev pub branched : Ctx → Bool → ℤ → Outcome
branched ctx taken offset =
    if taken then landed ctx (offset_from ctx.pc offset) ctx else done (advanced ctx)

-- bit 0 of an address is cleared
abbrev pub even : ℕ → ℕ
even address = address - address % 2

-- the hart waits, unless a bit is set in mip and in mie
abbrev pub slept : Ctx → Outcome
slept ctx =
    if bit_and (pending_bits ctx.pins) ctx.mie == 0
    then stays (advanced ctx) Wait
    else done (advanced ctx)

-- the work done
unfoldable pub effect : Ctx → Operation → Outcome
effect ctx (Compute rd how left right) = computed ctx rd (result_of how (value_of ctx left) (value_of ctx right))
effect ctx (Jump rd offset) = jumped ctx rd (offset_from ctx.pc offset)
effect ctx (JumpRegister rd rs1 imm) = jumped ctx rd (even (offset_from (register_of ctx rs1) imm))
effect ctx (Branch when rs1 rs2 offset) = branched ctx (holds when (register_of ctx rs1) (register_of ctx rs2)) offset
effect ctx (Read size is_signed rd rs1 imm) = stays ctx (Load (offset_from (register_of ctx rs1) imm) size is_signed rd)
effect ctx (Write size rs1 rs2 imm) =
    stays ctx (Store (offset_from (register_of ctx rs1) imm) size (register_of ctx rs2 % 2 ^ (8 * size)))
effect ctx Skip = done (advanced ctx)
effect ctx (Raise cause) = stays ctx (Trap cause 0)
effect ctx Sleep = slept ctx
effect ctx Privileged = stays ctx System

-- what an instruction leaves and answers
unfoldable pub meaning : Ctx → Inst → Outcome
meaning ctx inst = effect ctx (operation_of inst)

-- an access, a trap and a system instruction leave the context, and an access has a size and a register
abbrev pub IsAnswered : Ctx → Ctx → After → Type 0
IsAnswered old new Done = ⊤
IsAnswered old new (Load address size is_signed rd) = (new ≡ old) × IsSize size × (rd < 32)
IsAnswered old new (Store address size value) = (new ≡ old) × IsSize size × (value < 2 ^ (8 * size))
IsAnswered old new (Trap cause value) = new ≡ old
IsAnswered old new Wait = ⊤
IsAnswered old new System = new ≡ old

-- so many bytes, as a word
abbrev pub extended : ℕ → Bool → ℕ → ℕ
extended size is_signed bytes = if is_signed then sign_extended (8 * size) bytes else bytes

-- the context once a load has its value
unfoldable pub after_load : Ctx → ℕ → Bool → ℕ → ℕ → Ctx
after_load ctx size is_signed rd value =
    advanced (with_register ctx rd (extended size is_signed (value % 2 ^ (8 * size))))
