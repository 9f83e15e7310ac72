-- The windows that reach a region: which of them holds an access, and what may become one of them.
use Rattle.std.specs.Prelude.{ℕ, ◌+◌, ◌-◌, Bool, true, false, not, ◌&&◌, ◌==◌, nat_lt, nat_le, if◌then◌else◌, List, [], ◌∷◌, Option}
use Rattle.std.specs.List.{find, list_any}
use Rattle.std.specs.Option.{option_map}
use Rattle.hv_kinds.specs.declared.address.AddressType.{AddressType}
use Rattle.hv_kinds.specs.declared.address.AddressType.TheVariants.{Memory, Io}
use Rattle.hv_region.specs.Addresses.{end_of}
use Rattle.hv_region.specs.Windows.{start_of}
use Rattle.hv_region.specs.declared.window.Window.{Window}
use Rattle.hv_text.specs.declared.limits.TheConstants.{GUEST_REGIONS}
use Rattle.hv_body.specs.declared.place.Place.{Place}

-- Two types of addresses are the same.
abbrev pub is_type : AddressType → AddressType → Bool
is_type Memory Memory = true
is_type Io Io = true
is_type _ _ = false

-- A window holds an access that is of its birth and its type, and all of whose bytes it has.
abbrev pub holds : Place → Window → Bool
holds place window =
    (window.birth == place.birth) && is_type window.kind place.kind
    && nat_le window.base place.addr && nat_le (place.addr + place.size) (window.base + window.size)

-- Where in the region an address lies that a window holds.
abbrev pub offset_in : Window → (addr : ℕ) → ℕ
offset_in window addr = addr - window.base + window.offset

-- Where in the region an access begins, if a window holds it.
abbrev pub offset_of : List Window → Place → Option ℕ
offset_of windows place = option_map (λ window. offset_in window place.addr) (find (holds place) windows)

-- Some address lies in both windows.
abbrev pub meets : Window → Window → Bool
meets window there =
    is_type there.kind window.kind
    && nat_lt there.base (window.base + window.size) && nat_lt window.base (there.base + there.size)

-- A window ends within the addresses of its type, and meets none that is there.
abbrev pub lies_apart : List Window → Window → Bool
lies_apart windows window =
    nat_le (window.base + window.size) (end_of window.kind) && not (list_any (meets window) windows)

-- A window's owner is a region of the guest that has no window there.
abbrev pub is_new_owner : List Window → Window → Bool
is_new_owner windows window =
    nat_lt window.owner GUEST_REGIONS && not (list_any (λ there. there.owner == window.owner) windows)

-- A window isn't empty, and shows nothing behind a region of so many bytes.
abbrev pub lies_within : (size : ℕ) → Window → Bool
lies_within size window = nat_le 1 window.size && nat_le (window.offset + window.size) size

-- A window stands among the others by its address, memory first.
abbrev pub put_in_order : Window → List Window → List Window
put_in_order window [] = window ∷ []
put_in_order window (there ∷ windows) =
    if nat_lt (start_of there) (start_of window)
    then there ∷ put_in_order window windows
    else window ∷ there ∷ windows
