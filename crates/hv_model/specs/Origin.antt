-- What a run begins with, and what the definitions read off it.
use Rattle.std.specs.Prelude.{ℕ, ◌+◌, nat_lt, if◌then◌else◌, List, [], ◌∷◌, slice_get, unwrap_or}
use Rattle.hv_emu.specs.Device.{DevState}
use Rattle.hv_model.specs.declared.opening.Opening.{Opening}

-- An origin is all that a run begins with: its opening, and the devices that no guest has, in their order.
pub record Origin : Type 0 where
  pub opening : Opening
  pub devices : List DevState

-- The origin of an opening with the devices that are handed in.
abbrev pub origin_of : Opening → List DevState → Origin
origin_of o devices = record { opening = o; devices = devices }

-- The boot script is the first of the scripts; one that isn't there is empty.
abbrev pub boot_among : List (List ℕ) → List ℕ
boot_among scripts = unwrap_or (slice_get scripts 0) []

-- The own script of a terminal has its number among the scripts behind the first, and there are four terminals; one
-- that isn't there is empty.
abbrev pub own_among : List (List ℕ) → ℕ → List ℕ
own_among scripts t = if nat_lt t 4 then unwrap_or (slice_get scripts (t + 1)) [] else []

-- The scripts of an origin.
abbrev pub boot_script : Origin → List ℕ
boot_script O = boot_among O.opening.scripts

abbrev pub own_script : Origin → ℕ → List ℕ
own_script O t = own_among O.opening.scripts t

-- There are four terminals.
abbrev pub terminals : List ℕ
terminals = 0 ∷ 1 ∷ 2 ∷ 3 ∷ []
