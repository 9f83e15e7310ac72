-- Windows, the ranges of guest addresses that reach a region, and lists of them.
use Rattle.std.specs.Prelude.{◌≡◌, ◌≢◌, ℕ, ◌+◌, ◌<◌, ◌≤◌, ◌==◌, List, ◌∷◌, ◌++◌, length, take, drop, min, not, filter, All, Contains, Option, Some, None, Result, Ok, Err}
use Rattle.std.specs.List.{AllPairs}
use Rattle.hv_kinds.specs.declared.address.AddressType.{AddressType}
use Rattle.hv_region.specs.Addresses.{end_of, guest_address}
use Rattle.hv_region.specs.declared.window.Window.{Window}
use Rattle.hv_region.specs.declared.window.RegionRefusal.{RegionRefusal}
use Rattle.hv_region.specs.declared.window.RegionRefusal.TheVariants.{Overlap, OutOfRange, AliasTarget}

-- the window holds each address of a range that isn't empty
pub record Holds (window : Window) (kind : AddressType) (addr size : ℕ) : Type 0 where
  pub some : 1 ≤ size
  pub type : window.kind ≡ kind
  pub from : window.base ≤ addr
  pub to : addr + size ≤ window.base + window.size

-- some address of one type lies in both windows
pub record Meets (one other : Window) : Type 0 where
  pub type : one.kind ≡ other.kind
  pub front : one.base < other.base + other.size
  pub back : other.base < one.base + one.size

-- the window ends within the addresses of its type
abbrev pub IsInRange : Window → Type 0
IsInRange window = window.base + window.size ≤ end_of window.kind

-- a window isn't empty, ends in range and belongs to one of 16 regions
pub record IsWindow (window : Window) : Type 0 where
  pub some : 1 ≤ window.size
  pub range : IsInRange window
  pub owner : window.owner < 16

-- where a window begins, as a guest sees it
abbrev pub start_of : Window → ℕ
start_of window = guest_address window.kind window.base

-- as a guest sees them, one window ends before the other begins
abbrev pub IsBefore : Window → Window → Type 0
IsBefore one other = start_of one + one.size ≤ start_of other

-- windows of different regions, memory first and by their addresses, none of which meets another
pub record AreWindows (windows : List Window) : Type 0 where
  pub each : All IsWindow windows
  pub owners : AllPairs (λ one other. one.owner ≢ other.owner) windows
  pub order : AllPairs IsBefore windows

-- no window of the region is there
abbrev pub HasNone : List Window → ℕ → Type 0
HasNone windows owner = All (λ there. there.owner ≢ owner) windows

-- the window stands among the others, which keep their order
pub record IsPutInto (old : List Window) (window : Window) (new : List Window) : Type 0 where
  pub before : List Window
  pub behind : List Window
  pub was : old ≡ before ++ behind
  pub is : new ≡ before ++ window ∷ behind

-- the windows before a place begin before this one, and the others don't
pub record IsPlaceFor (windows : List Window) (window : Window) (place : ℕ) : Type 0 where
  pub within : place ≤ length windows
  pub before : All (λ there. start_of there < start_of window) (take place windows)
  pub behind : All (λ there. start_of window ≤ start_of there) (drop place windows)

-- the lesser of an owner and the one found before it, if any
abbrev pub IsLesserOf : Option ℕ → ℕ → Option ℕ → Type 0
IsLesserOf None owner result = result ≡ Some owner
IsLesserOf (Some found) owner result = result ≡ Some (min found owner)

-- the owner of a window that meets this one, and no lesser owner's does
pub record IsLeastMet (windows : List Window) (window : Window) (owner : ℕ) : Type 0 where
  pub met : Window
  pub there : Contains windows met
  pub meets : Meets met window
  pub is : met.owner ≡ owner
  pub least : All (λ other. Meets other window → owner ≤ other.owner) windows

-- what an addition leaves, or why it is refused and leaves all as it was: the window is out of range, or else it
-- meets another
abbrev pub Adds : List Window → Window → Result (Unit {0}) RegionRefusal → List Window → Type 0
Adds old window (Ok _) new = IsInRange window × All (λ there. Meets there window → ⊥) old × IsPutInto old window new
Adds old window (Err OutOfRange) new = (end_of window.kind < window.base + window.size) × (new ≡ old)
Adds old window (Err (Overlap owner)) new = IsInRange window × IsLeastMet old window owner × (new ≡ old)
Adds old window (Err AliasTarget) new = ⊥

-- a window that holds the range, or nothing where none does
abbrev pub Finds : List Window → AddressType → ℕ → ℕ → Option Window → Type 0
Finds windows kind addr size (Some window) = Contains windows window × Holds window kind addr size
Finds windows kind addr size None = All (λ window. Holds window kind addr size → ⊥) windows

-- a window that is a region's own, no alias
abbrev pub IsOwn : Window → Type 0
IsOwn window = window.owner ≡ window.target

-- a region's own window that holds the range, or that none does
abbrev pub FindsTarget : List Window → AddressType → ℕ → ℕ → Result Window RegionRefusal → Type 0
FindsTarget windows kind addr size (Ok window) = Contains windows window × IsOwn window × Holds window kind addr size
FindsTarget windows kind addr size (Err AliasTarget) = All (λ window. IsOwn window → Holds window kind addr size → ⊥) windows
FindsTarget windows kind addr size (Err OutOfRange) = ⊥
FindsTarget windows kind addr size (Err (Overlap owner)) = ⊥

-- the windows that aren't of an owner
abbrev pub without_owner : ℕ → List Window → List Window
without_owner owner windows = filter (λ window. not (window.owner == owner)) windows

-- the windows that don't lead to a target
abbrev pub without_target : ℕ → List Window → List Window
without_target target windows = filter (λ window. not (window.target == target)) windows
