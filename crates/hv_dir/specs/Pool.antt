-- The devices that no guest has, in the order in which they are found, and which of them a list of names takes.
use Rattle.std.specs.Prelude.{ℕ, List, [], ◌∷◌, ◌++◌, map, Option, None, position, remove, slice_get}
use Rattle.std.specs.Option.{option_and_then, option_map, option_or}
use Rattle.hv_emu.specs.Device.{DevState, has_name, after_reset}

-- The place of the device that a list of names asks for: the first one of the first name that some device has.
abbrev pub place_of : (devices : List DevState) → (names : List (List ℕ)) → Option ℕ
place_of devices [] = None
place_of devices (name ∷ names) = option_or (position (λ device. has_name device name) devices) (place_of devices names)

-- The device at a place, and the devices without it.
abbrev pub taken_at : (devices : List DevState) → (place : ℕ) → Option (DevState × List DevState)
taken_at devices place = option_map (λ device. (device, remove devices place)) (slice_get devices place)

-- What a list of names takes: a device and those that are left, or nothing where no device has one of the names.
abbrev pub taken : (devices : List DevState) → (names : List (List ℕ)) → Option (DevState × List DevState)
taken devices names = option_and_then (taken_at devices) (place_of devices names)

-- A device that comes back is reset and goes last.
abbrev pub given_back : (devices : List DevState) → DevState → List DevState
given_back devices device = devices ++ after_reset device ∷ []

-- What contracts see of a pool: its parts in their order, and how many more it has room for.
pub record Pool (E : Type 0) : Type 0 where
  pub parts : List E
  pub room : ℕ

-- The devices that the parts of a pool are.
abbrev pub devices_of : {E : Type 0} → (state : E → DevState) → Pool E → List DevState
devices_of state pool = map state pool.parts
