-- What steps that reach memory find at the components that stand first in their list.
use Rattle.std.specs.Prelude.{ℕ, ◌+◌, ◌≤◌, List, [], ◌∷◌, length, Option, None, Some, Result, Ok, Err, option_and_then}
use Rattle.hv_body.specs.declared.place.Answer.{Answer}
use Rattle.hv_body.specs.declared.place.Answer.TheVariants.{NotHere}
use Rattle.hv_event.specs.declared.event.CellId.{CellId}
use Rattle.hv_kinds.specs.declared.address.AddressType.TheVariants.{Memory}
use Rattle.hv_memory_steps.specs.Accesses.{access_for}
use Rattle.hv_memory_steps.specs.Fetches.{fetch_for}
use Rattle.hv_memory_steps.specs.Ranges.{shown_range}
use Rattle.hv_model.specs.Files.{read_file}
use Rattle.hv_parts.specs.Kinds.{IsPartOf}
use Rattle.hv_parts.specs.Value.{PartValue, Files, Space, Vcpu, Body, Area}
use Rattle.hv_region.specs.declared.window.Window.{Window}
use Rattle.hv_rules.specs.Body.{shared_in}
use Rattle.hv_rules.specs.Windows.{window_at}
use Rattle.hv_step.specs.declared.step.Access.{Access}
use Rattle.hv_step.specs.declared.step.Fetch.{Fetch}
use Rattle.hv_step.specs.declared.step.Load.{Load}

-- Values begin with those of the kinds of components, each of the one that stands where it does.
abbrev pub StandFirst : List CellId → List PartValue → Type 0
StandFirst [] values = Unit {0}
StandFirst (x ∷ xs) (value ∷ values) = IsPartOf x value × StandFirst xs values
StandFirst (x ∷ xs) [] = ⊥

-- What a region answers to a hart's fetch, where the VCPU and the region stand first.
abbrev pub fetch_first : (hart : ℕ) → Fetch → List PartValue → Answer
fetch_first hart s (Vcpu v ∷ Body body ∷ values) = fetch_for hart s v body
fetch_first hart s values = NotHere

-- The same of a hart's access.
abbrev pub access_first : (hart : ℕ) → Access → List PartValue → Answer
access_first hart s (Vcpu v ∷ Body body ∷ values) = access_for hart s v body
access_first hart s values = NotHere

-- What stands behind the directory.
abbrev pub behind : List PartValue → List PartValue
behind [] = []
behind (value ∷ values) = values

-- The memory window that holds a range, where the space stands first.
abbrev pub window_first : (address size : ℕ) → List PartValue → Option Window
window_first address size (Space space ∷ values) = window_at space.windows Memory address size
window_first address size values = None

-- The area of which a window shows a range, where the space and the region stand first; none without a window.
abbrev pub area_first : (window : Option Window) → (address size : ℕ) → List PartValue → Option (ℕ × ℕ)
area_first None address size values = None
area_first (Some window) address size (Space space ∷ Body body ∷ values) = shared_in (shown_range body window address size)
area_first window address size values = None

-- How many bytes a file has, if it is there.
abbrev pub size_of : {F : Type 0} → Result (List ℕ) F → Option ℕ
size_of (Ok bytes) = Some (length bytes)
size_of (Err why) = None

-- How many bytes a load has, where the files stand first.
abbrev pub size_first : Load → List PartValue → Option ℕ
size_first s (Files files ∷ values) = size_of (read_file files s.path)
size_first s values = None

-- The window that holds the whole of a file, and the area of which it shows a part there; none of one that is missing.
abbrev pub window_for : (address : ℕ) → (size : Option ℕ) → List PartValue → Option Window
window_for address size values = option_and_then (λ n. window_first address n values) size

abbrev pub area_for : (window : Option Window) → (address : ℕ) → (size : Option ℕ) → List PartValue → Option (ℕ × ℕ)
area_for window address size values = option_and_then (λ n. area_first window address n values) size

-- A value is an area that has bytes up to an end.
abbrev pub IsLong : (end : ℕ) → PartValue → Type 0
IsLong end (Area bytes) = end ≤ length bytes
IsLong end value = ⊥

-- The last value is one.
abbrev pub LastHas : (end : ℕ) → List PartValue → Type 0
LastHas end [] = ⊥
LastHas end (value ∷ []) = IsLong end value
LastHas end (value ∷ next ∷ values) = LastHas end (next ∷ values)

-- An area that is asked stands last, and has so many bytes from the offset on.
abbrev pub HasBytes : (size : ℕ) → (area : Option (ℕ × ℕ)) → List PartValue → Type 0
HasBytes size None values = Unit {0}
HasBytes size (Some place) values = LastHas (place.1 + size) values
