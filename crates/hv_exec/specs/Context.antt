-- What a hart's context is asked and how it changes.
use Rattle.std.specs.Prelude.{ℕ, ◌+◌, ◌%◌, ◌^◌, ◌==◌, if◌then◌else◌, slice_index, slice_set}
use Rattle.hv_exec.specs.declared.context.Ctx.{Ctx}

-- the value of a register, which is 0 for x0
abbrev pub register_of : Ctx → ℕ → ℕ
register_of ctx number = if number == 0 then 0 else slice_index ctx.x number

-- the context with a value in a register, unchanged for x0
abbrev pub with_register : Ctx → ℕ → ℕ → Ctx
with_register ctx number value =
    if number == 0 then ctx else record ctx { x = slice_set ctx.x number value }

-- the context at another instruction
abbrev pub at : Ctx → ℕ → Ctx
at ctx pc = record ctx { pc = pc }

-- the address behind the instruction
abbrev pub next_pc : Ctx → ℕ
next_pc ctx = (ctx.pc + 4) % 2 ^ 64

-- the context at the next instruction
abbrev pub advanced : Ctx → Ctx
advanced ctx = at ctx (next_pc ctx)
