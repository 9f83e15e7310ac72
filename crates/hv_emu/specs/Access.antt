-- Accesses to the registers of a device.
use Rattle.std.specs.Prelude.{ℕ, Option, Some, None}

-- An access has an offset in the device and a size in bytes. A store has a value below 256 to the power of its size.
pub data Access : Type 0 where
  load : (offset size : ℕ) → Access
  store : (offset size value : ℕ) → Access

-- What an access leaves, and its answer: none where it is denied, what is read, or 0 for a store.
pub record Outcome (State : Type 0) : Type 0 where
  pub left : State
  pub answer : Option ℕ

-- A load that reaches a register answers its value, and one that reaches none is denied and leaves all as it was.
abbrev pub loaded : {State Register : Type 0} → State → Option Register
    → (Register → ℕ) → (Register → State) → Outcome State
loaded state None value after = record { left = state; answer = None }
loaded state (Some register) value after = record { left = after register; answer = Some (value register) }

-- A store that reaches a register changes the device, and one that reaches none is denied and leaves all as it was.
abbrev pub stored : {State Register : Type 0} → State → Option Register
    → (Register → State) → Outcome State
stored state None after = record { left = state; answer = None }
stored state (Some register) after = record { left = after register; answer = Some 0 }
