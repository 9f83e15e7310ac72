-- Who owns a guest: the terminal whose line makes it or ends it.
use Rattle.std.specs.Prelude.{◌≡◌, ℕ, suc, ◌<◌, ◌⊎◌, Bool, true, false, Option, None, Some, List, length, option_map, slice_get}
use Rattle.std.specs.List.{AllByRecursion}
use Rattle.hv_dir.specs.Directory.{DirState, entry_at}
use Rattle.hv_dir.specs.declared.entry.Entry.{Entry}
use Rattle.hv_kinds.specs.declared.stage.Stage.{Stage}
use Rattle.hv_kinds.specs.declared.stage.Stage.TheVariants.{Making, Ending}
use Rattle.hv_model.specs.Plans.{Planned, regions_of, row_of, vcpus_of}
use Rattle.hv_region.specs.declared.plan.RegionPlan.{RegionPlan}
use Rattle.hv_region.specs.declared.window.Window.{Window}
use Rattle.hv_rules.specs.Body.{index_of}
use Rattle.hv_rules.specs.Hart.{slot_of}
use Rattle.hv_rules.specs.Line.{Ask, Asked, LineState, Place, create, destroy, drop_vcpu, is_owned, name_in, on, back, over}
use Rattle.hv_order_laws.specs.Lines.{AddsRegions, AddsVcpus, AreAdditions, ArePlain, Drops, HasMade, IsAdded, IsAmong, IsToDrop}

-- What lines see of a board: its directory, the windows of each slot, and which VCPUs are there, those of guests by
-- their number less one.
pub record Scene : Type 0 where
  pub dir : DirState
  pub windows : (slot : ℕ) → List Window
  pub is_there : (vcpu : ℕ) → Bool

-- The directory has a guest of this name, birth and stage in a slot.
pub record IsGuest (d : DirState) (name : List ℕ) (slot birth : ℕ) (stage : Stage) : Type 0 where
  pub entry : Entry
  pub at : entry_at d slot ≡ Some entry
  pub called : entry.name ≡ name
  pub born : entry.birth ≡ birth
  pub at_stage : entry.stage ≡ stage

-- No VCPU of a slot is there.
abbrev pub HasNoVcpu : Scene → (slot : ℕ) → Type 0
HasNoVcpu scene slot = (v : ℕ) → slot_of (suc v) ≡ slot → scene.is_there v ≡ false

-- While a line can turn back its guest has no VCPU, and windows of the regions alone that it added.
pub record CanTurnBack (scene : Scene) (rows : ℕ → Option ℕ) (slot : ℕ) (made : List Ask) : Type 0 where
  pub asks : AreAdditions made
  pub windows : AllByRecursion (λ window. IsAdded rows made window.owner) (scene.windows slot)
  pub vcpus : HasNoVcpu scene slot

-- Where a line is that makes the guest in a slot.
abbrev pub MakesAt : Scene → (rows : ℕ → Option ℕ) → (slot : ℕ) → Place → Type 0
MakesAt scene rows slot (on made todo) =
    (CanTurnBack scene rows slot made × AddsRegions todo) ⊎ (HasMade made × AddsVcpus todo)
MakesAt scene rows slot (back why made) = CanTurnBack scene rows slot made
MakesAt scene rows slot (over why) = ⊥

-- A line that ends a guest has still to drop each VCPU that is there, and each region to which a window leads.
pub record HasToDrop (scene : Scene) (rows : ℕ → Option ℕ) (slot : ℕ) (todo : List Ask) : Type 0 where
  pub asks : Drops todo
  pub windows : AllByRecursion (λ window. IsToDrop rows todo window.target) (scene.windows slot)
  pub vcpus : (v : ℕ) → slot_of (suc v) ≡ slot → scene.is_there v ≡ true → IsAmong (drop_vcpu (index_of (suc v))) todo

abbrev pub EndsAt : Scene → (rows : ℕ → Option ℕ) → (slot : ℕ) → Place → Type 0
EndsAt scene rows slot (on made todo) = HasMade made × HasToDrop scene rows slot todo
EndsAt scene rows slot (back why made) = ⊥
EndsAt scene rows slot (over why) = ⊥

-- A line owns the guest that it makes or ends: it knows its slot and its birth, and the directory has it there.
pub record Owns (d : DirState) (name : List ℕ) (guest : Option (ℕ × ℕ)) (stage : Stage) (At : (slot : ℕ) → Type 0) : Type 0 where
  pub slot : ℕ
  pub birth : ℕ
  pub learnt : guest ≡ Some (slot, birth)
  pub is : IsGuest d name slot birth stage
  pub at : At slot

-- Any other line has plain steps before it.
abbrev pub IsPlainAt : Place → Type 0
IsPlainAt (on made todo) = ArePlain todo
IsPlainAt (back why made) = ⊥
IsPlainAt (over why) = Unit {0}

-- The row of a guest to which a row of the line's plan leads.
abbrev pub rows_of : List Planned → (name : List ℕ) → (regions : List RegionPlan) → (planned : ℕ) → Option ℕ
rows_of plans name regions planned = row_of plans name (name_in (slice_get regions planned))

-- A line fits what it sees, by what it asks for.
abbrev pub FitsAs : Scene → List Planned → Asked → (regions : List RegionPlan) → (guest : Option (ℕ × ℕ)) → Place → Type 0
FitsAs scene plans (create name) regions guest place =
    Owns scene.dir name guest Making (λ slot. MakesAt scene (rows_of plans name regions) slot place)
FitsAs scene plans (destroy name) regions guest place =
    Owns scene.dir name guest Ending (λ slot. EndsAt scene (rows_of plans name regions) slot place)
FitsAs scene plans _ regions guest place = IsPlainAt place

abbrev pub LineFits : Scene → List Planned → Option LineState → Type 0
LineFits scene plans None = Unit {0}
LineFits scene plans (Some line) = FitsAs scene plans line.asked line.regions line.guest line.place

-- The name of the guest that a line owns.
abbrev pub owned_name : Asked → Option (List ℕ)
owned_name (create name) = Some name
owned_name (destroy name) = Some name
owned_name asked = None

abbrev pub owned_by : Option LineState → Option (List ℕ)
owned_by None = None
owned_by (Some line) = owned_name line.asked

-- The name of the guest in a slot.
abbrev pub name_at : DirState → (slot : ℕ) → Option (List ℕ)
name_at d slot = option_map (λ guest. guest.name) (entry_at d slot)

-- A row is one that the plan of a guest has of its own, no alias.
pub record IsOwnedRow (plans : List Planned) (name : List ℕ) (row : ℕ) : Type 0 where
  pub region : RegionPlan
  pub at : slice_get (regions_of plans name) row ≡ Some region
  pub is_own : is_owned region ≡ true
  pub row_is : row_of plans name region.name ≡ Some row

abbrev pub IsRowOf : List Planned → (name : Option (List ℕ)) → (row : ℕ) → Type 0
IsRowOf plans None row = ⊥
IsRowOf plans (Some name) row = IsOwnedRow plans name row

-- How many VCPUs the guest has by its plan.
abbrev pub vcpus_by : List Planned → (name : Option (List ℕ)) → ℕ
vcpus_by plans None = 0
vcpus_by plans (Some name) = length (vcpus_of plans name)

-- A slot has windows that lead to rows of the guest's plan, and VCPUs that the plan has; without a guest it has neither.
pub record SlotFits (plans : List Planned) (scene : Scene) (slot : ℕ) : Type 0 where
  pub windows : AllByRecursion (λ window. IsRowOf plans (name_at scene.dir slot) window.target) (scene.windows slot)
  pub vcpus : (v : ℕ) → slot_of (suc v) ≡ slot → scene.is_there v ≡ true
      → index_of (suc v) < vcpus_by plans (name_at scene.dir slot)

-- Each entry of the directory stands at its slot, and no two have one name.
pub record IsDirectory (d : DirState) : Type 0 where
  pub placed : (k : ℕ) (e : Entry) → entry_at d k ≡ Some e → e.slot ≡ k
  pub distinct : (j k : ℕ) (e f : Entry) → entry_at d j ≡ Some e → entry_at d k ≡ Some f → e.name ≡ f.name → j ≡ k

-- The line of each terminal fits what it sees, and no two own a guest of one name.
pub record HasOwners (plans : List Planned) (scene : Scene) (lines : (terminal : ℕ) → Option LineState) : Type 0 where
  pub directory : IsDirectory scene.dir
  pub slots : (slot : ℕ) → SlotFits plans scene slot
  pub fits : (t : ℕ) → LineFits scene plans (lines t)
  pub apart : (t u : ℕ) (name : List ℕ) → (t ≡ u → ⊥) → owned_by (lines t) ≡ Some name → owned_by (lines u) ≡ Some name → ⊥
