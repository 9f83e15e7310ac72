-- The components beside the directory where a region is added or dropped: the pool stands second, the guest's space
-- third, and last the body that is changed.
use Rattle.std.specs.Prelude.{ℕ, List, [], ◌∷◌, Option, None, Some}
use Rattle.hv_emu.specs.Device.{DevState}
use Rattle.hv_parts.specs.Value.{PartValue, Shelf, Space}
use Rattle.hv_space.specs.Space.{SpaceState, no_windows}

-- The devices of the pool, which stands second.
abbrev pub pool_in : List PartValue → List DevState
pool_in (first ∷ Shelf devices ∷ values) = devices
pool_in values = []

-- The space, which stands third.
abbrev pub space_in : List PartValue → SpaceState
space_in (first ∷ second ∷ Space space ∷ values) = space
space_in values = no_windows

-- The row whose body is changed: that of the region, or of the target of one that is an alias.
abbrev pub changed_row : (row : ℕ) → (target : Option (ℕ × ℕ)) → ℕ
changed_row row None = row
changed_row row (Some target) = target.0
