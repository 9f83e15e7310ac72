-- What an instruction comes to: it leaves an access of at least one byte, and nothing to a system instruction.
use Rattle.std.proofs.Common.{◌≡◌, ℕ, ◌==◌, ◌⊎◌, inl, inr, nat_le, Bool, true, false, if◌then◌else◌, refl, sym, subst}
use Rattle.std.specs.Prelude.{◌%◌, ◌&&◌, bit_and, Option, None, Some}
use Rattle.hv_exec.specs.Context.{advanced, at, next_pc, register_of, with_register}
use Rattle.hv_exec.specs.Meaning.{Outcome, effect, meaning, stays, done, landed, even, holds, offset_from}
use Rattle.hv_exec.specs.Operation.{operation_of}
use Rattle.hv_exec.specs.declared.causes.TheConstants.{INSTRUCTION_ADDRESS_MISALIGNED}
use Rattle.hv_exec.specs.declared.context.After.{After}
use Rattle.hv_exec.specs.declared.context.After.TheVariants.{Done, Load, Store, Trap, Wait, System}
use Rattle.hv_exec.specs.declared.context.Ctx.{Ctx}
use Rattle.hv_exec.specs.declared.inst.Inst.{Inst}
use Rattle.hv_exec.specs.declared.inst.Inst.TheVariants.{Mret, Csrrw, Csrrs, Csrrc, Csrrwi, Csrrsi, Csrrci, Lui}
use Rattle.hv_exec.specs.declared.operation.Operation.{Operation}
use Rattle.hv_exec.specs.declared.operation.Operation.TheVariants.{Compute, Jump, JumpRegister, Branch, Read, Write, Skip, Raise, Sleep, Privileged}
use Rattle.hv_isa.specs.Table.{decoded}
use Rattle.hv_kinds.specs.Pins.{pending_bits}
use Rattle.hv_trap.specs.Csr.{is_read_only, read}
use Rattle.hv_trap.specs.Trap.{accessed, changed, illegal, system_meaning, writes}
use Rattle.hv_trap.specs.declared.csr.Change.{Change}
use Rattle.hv_trap.specs.declared.csr.Csr.{Csr}
use Rattle.hv_vcpu.specs.Instruction.{performed, aligned, attempted_as, carried_out, is_system}

-- an answer that a reply can show
abbrev pub is_whole : After → Bool
is_whole Done = true
is_whole (Load address size is_signed register) = nat_le 1 size
is_whole (Store address size value) = nat_le 1 size
is_whole (Trap cause value) = true
is_whole Wait = true
is_whole System = false

abbrev is_sized : Operation → Bool
is_sized (Read size is_signed rd rs1 imm) = nat_le 1 size
is_sized (Write size rs1 rs2 imm) = nat_le 1 size
is_sized _ = true

abbrev is_privileged : Operation → Bool
is_privileged Privileged = true
is_privileged _ = false

operation-sized : (inst : Inst) → is_sized (operation_of inst) ≡ true
unfolding operation_of
operation-sized (Lui rd imm) = refl
operation-sized _ = refl

-- a choice of two answers
chosen-whole : (P : Outcome → Type 0) (b : Bool) (x y : Outcome) → P x → P y → P (if b then x else y)
chosen-whole P true x y one other = one
chosen-whole P false x y one other = other

abbrev IsWhole : Outcome → Type 0
IsWhole out = is_whole out.answer ≡ true

landed-whole : (ctx : Ctx) (target : ℕ) (after : Ctx) → IsWhole (landed ctx target after)
landed-whole ctx target after =
    chosen-whole IsWhole (target % 4 == 0) (done (at after target)) (stays ctx (Trap INSTRUCTION_ADDRESS_MISALIGNED target)) refl refl

branched-whole : (ctx : Ctx) (b : Bool) (target : ℕ) → IsWhole (if b then landed ctx target ctx else done (advanced ctx))
branched-whole ctx true target = landed-whole ctx target ctx
branched-whole ctx false target = refl

slept-whole : (ctx : Ctx) (b : Bool) → IsWhole (if b then stays (advanced ctx) Wait else done (advanced ctx))
slept-whole ctx true = refl
slept-whole ctx false = refl

-- the work of an instruction answers such, or it is that of a system instruction
effect-whole : (ctx : Ctx) (op : Operation) → is_sized op ≡ true → IsWhole (effect ctx op) ⊎ (is_privileged op ≡ true)
unfolding effect
effect-whole ctx (Compute rd how left right) sized = inl refl
effect-whole ctx (Jump rd offset) sized = inl (landed-whole ctx (offset_from ctx.pc offset) (with_register ctx rd (next_pc ctx)))
effect-whole ctx (JumpRegister rd rs1 imm) sized =
    inl (landed-whole ctx (even (offset_from (register_of ctx rs1) imm)) (with_register ctx rd (next_pc ctx)))
effect-whole ctx (Branch when rs1 rs2 offset) sized =
    inl (branched-whole ctx (holds when (register_of ctx rs1) (register_of ctx rs2)) (offset_from ctx.pc offset))
effect-whole ctx (Read size is_signed rd rs1 imm) sized = inl sized
effect-whole ctx (Write size rs1 rs2 imm) sized = inl sized
effect-whole ctx Skip sized = inl refl
effect-whole ctx (Raise cause) sized = inl refl
effect-whole ctx Sleep sized = inl (slept-whole ctx (bit_and (pending_bits ctx.pins) ctx.mie == 0))
effect-whole ctx Privileged sized = inr refl

effect-system : (ctx : Ctx) (op : Operation) → is_privileged op ≡ true → is_system (effect ctx op).answer ≡ true
unfolding effect
effect-system ctx Privileged is = refl
effect-system ctx _ is = absurd (cc)

accessed-whole : (ctx : Ctx) (rd : ℕ) (csr : Option Csr) (change : Change) (operand word : ℕ) → IsWhole (accessed ctx rd csr change operand word)
accessed-whole ctx rd None change operand word = refl
accessed-whole ctx rd (Some csr) change operand word =
    chosen-whole IsWhole (writes change && is_read_only csr) (illegal ctx word) (done (advanced (with_register (changed ctx csr change operand) rd (read ctx csr)))) refl refl

system-whole : (ctx : Ctx) (inst : Inst) → is_privileged (operation_of inst) ≡ true → IsWhole (system_meaning ctx inst)
unfolding operation_of system_meaning
system-whole ctx Mret is = refl
system-whole ctx (Csrrw rd rs1 csr) is = accessed-whole ctx _ _ _ _ _
system-whole ctx (Csrrs rd rs1 csr) is = accessed-whole ctx _ _ _ _ _
system-whole ctx (Csrrc rd rs1 csr) is = accessed-whole ctx _ _ _ _ _
system-whole ctx (Csrrwi rd imm csr) is = accessed-whole ctx _ _ _ _ _
system-whole ctx (Csrrsi rd imm csr) is = accessed-whole ctx _ _ _ _ _
system-whole ctx (Csrrci rd imm csr) is = accessed-whole ctx _ _ _ _ _
system-whole ctx _ is = absurd (cc)

whole-system : (answer : After) → is_whole answer ≡ true → is_system answer ≡ false
whole-system System whole = absurd (cc)
whole-system _ whole = refl

performed-whole : (ctx : Ctx) (inst : Inst) → IsWhole (performed ctx inst)
unfolding meaning
performed-whole ctx inst =
    let op = operation_of inst in
    let Choice : Bool → Type 0 = λ b. IsWhole (if b then system_meaning ctx inst else effect ctx op) in
    elim (effect-whole ctx op (operation-sized inst)) [
      | inl whole ↦ subst Choice (sym (whole-system (effect ctx op).answer whole)) whole
      | inr is ↦ subst Choice (sym (effect-system ctx op is)) (system-whole ctx inst is)
    ]

aligned-whole : (out : Outcome) (answer : After) → IsWhole out → IsWhole (aligned out answer)
aligned-whole out (Load address size is_signed rd) whole = chosen-whole IsWhole (address % size == 0) out _ whole refl
aligned-whole out (Store address size value) whole = chosen-whole IsWhole (address % size == 0) out _ whole refl
aligned-whole out _ whole = whole

attempted-whole : (ctx : Ctx) (word : ℕ) (inst : Option Inst) → IsWhole (attempted_as ctx word inst)
attempted-whole ctx word None = refl
attempted-whole ctx word (Some inst) = aligned-whole (performed ctx inst) (performed ctx inst).answer (performed-whole ctx inst)

pub carried-whole : (ctx : Ctx) (word : ℕ) → is_whole (carried_out ctx word).answer ≡ true
unfolding carried_out
carried-whole ctx word = attempted-whole ctx word (decoded word)
