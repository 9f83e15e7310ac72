-- Guest addresses, which are either of memory or of I/O.
use Rattle.std.specs.Prelude.{◌≡◌, ℕ, ◌+◌, ◌^◌, ◌<◌, ◌≤◌, Option, Some, None}
use Rattle.hv_kinds.specs.declared.address.AddressType.{AddressType}
use Rattle.hv_kinds.specs.declared.address.AddressType.TheVariants.{Memory, Io}

-- the addresses of a type lie below this
abbrev pub end_of : AddressType → ℕ
end_of Memory = 2 ^ 56
end_of Io = 2 ^ 32

-- the address by which a guest's instructions reach an address of a type: memory lies first, and I/O behind it
abbrev pub guest_address : AddressType → ℕ → ℕ
guest_address Memory at = at
guest_address Io at = 2 ^ 56 + at

-- the address of a type that an instruction's address means, or nothing where it lies behind both types
abbrev pub IsPlaceOf : ℕ → Option (AddressType × ℕ) → Type 0
IsPlaceOf addr (Some place) = (place.1 < end_of place.0) × (guest_address place.0 place.1 ≡ addr)
IsPlaceOf addr None = 2 ^ 56 + 2 ^ 32 ≤ addr
