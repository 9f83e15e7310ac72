-- The words of a look at a VCPU.
use Rattle.std.specs.Prelude.{◌≡◌, ℕ, ◌^◌, ◌<◌, List, [], ◌∷◌, ◌++◌, length, map}
use Rattle.std.specs.List.{AllByRecursion, join_with_byte}
use Rattle.std.specs.Fmt.{decimal}
use Rattle.hv_data.specs.Text.{address_text, state_text}
use Rattle.hv_data.specs.Written.{IsNumber, IsNumber8, IsState}
use Rattle.hv_look.specs.declared.look.Csrs.{Csrs}
use Rattle.hv_look.specs.declared.look.Registers.{Registers}
use Rattle.hv_look.specs.declared.look.Look.{Look}

-- The values of the control and status registers, in their order.
abbrev pub csr_values : Csrs → List ℕ
csr_values c = c.mstatus ∷ c.mie ∷ c.mtvec ∷ c.mscratch ∷ c.mepc ∷ c.mcause ∷ c.mtval ∷ []

-- The values of the registers, in their order.
abbrev pub register_values : Registers → List ℕ
register_values r = r.pc ∷ (r.x ++ csr_values r.csrs)

-- The words of values.
abbrev pub values_words : List ℕ → List (List ℕ)
values_words values = map address_text values

-- The words of registers.
abbrev pub registers_words : Registers → List (List ℕ)
registers_words r = values_words (register_values r)

-- The words of a slice and of registers.
abbrev pub sliced_words : ℕ × Registers → List (List ℕ)
sliced_words both = decimal both.0 ∷ registers_words both.1

-- The words of a look.
abbrev pub look_words : Look → List (List ℕ)
look_words l = state_text l.state ∷ decimal l.priority ∷ sliced_words (l.slice, l.registers)

-- The words of a look stand one space apart.
abbrev pub look_text : Look → List ℕ
look_text l = join_with_byte 32 (look_words l)

-- Each of these has at most 64 bits.
abbrev pub AreNumbers : List ℕ → Type 0
AreNumbers values = AllByRecursion IsNumber values

-- There are 31 registers that may be written, and each value has at most 64 bits.
abbrev pub IsRegisters : Registers → Type 0
IsRegisters r = (length r.x ≡ 31) × AreNumbers (register_values r)

-- A slice has at most 32 bits.
abbrev pub IsSliced : ℕ × Registers → Type 0
IsSliced both = (both.0 < 2 ^ 32) × IsRegisters both.1

-- What a look shows has the written form.
abbrev pub IsLook : Look → Type 0
IsLook l = IsState l.state × IsNumber8 l.priority × IsSliced (l.slice, l.registers)
