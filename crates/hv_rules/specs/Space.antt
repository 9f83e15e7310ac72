-- The component of a guest's address space: to which events it agrees, and what an event leaves in it.
use Rattle.std.specs.Prelude.{◌≡◌, ℕ, ◌==◌, min, length, Bool, true, false, ◌&&◌, if◌then◌else◌, IsSomeAnd}
use Rattle.std.specs.Prelude.{List, [], ◌∷◌, map, filter, find}
use Rattle.std.specs.Prelude.{Option, None, Some, is_none, Ok, Err, option_map, option_and_then}
use Rattle.std.specs.Bool.{then_some}
use Rattle.std.specs.List.{list_any}
use Rattle.std.specs.Option.{option_or, option_map_or}
use Rattle.hv_answer.specs.declared.reply.Reply.{Reply}
use Rattle.hv_answer.specs.declared.reply.Reply.TheVariants as reply
use Rattle.hv_body.specs.Windows.{meets, offset_in, put_in_order}
use Rattle.hv_kinds.specs.declared.address.AddressType.TheVariants.{Memory}
use Rattle.hv_listing.specs.declared.window.ListedWindow.{ListedWindow}
use Rattle.hv_refusal.specs.declared.refusal.Refusal.{Refusal}
use Rattle.hv_refusal.specs.declared.refusal.Refusal.TheVariants as refusal
use Rattle.hv_region.specs.Windows.{without_owner, without_target}
use Rattle.hv_region.specs.declared.plan.Form.{Form}
use Rattle.hv_region.specs.declared.plan.Form.TheVariants.{Alias}
use Rattle.hv_region.specs.declared.plan.RegionPlan.{RegionPlan}
use Rattle.hv_region.specs.declared.window.Window.{Window}
use Rattle.hv_space.specs.Space.{SpaceState}
use Rattle.hv_step.specs.declared.step.Step.{Step}
use Rattle.hv_step.specs.declared.step.Step.TheVariants as step
use Rattle.hv_rules.specs.Carry.{Carry}
use Rattle.hv_rules.specs.Windows.{Region, region_of, window_of, guest_place, has_range, window_at}

-- A window as `regions` lists it.
abbrev pub listed : Window → ListedWindow
listed window = record {
  owner = window.owner;
  target = window.target;
  address_type = window.kind;
  base = window.base;
  size = window.size;
  offset = window.offset;
}

-- A window is that of a row.
abbrev pub is_of : (row : ℕ) → Window → Bool
is_of row window = window.owner == row

-- A window is a region's own, and not that of an alias.
abbrev pub is_own : Window → Bool
is_own window = is_of window.target window

-- The row and the offset to which the window of an alias leads.
abbrev pub alias_in : Window → Option (ℕ × ℕ)
alias_in window = if is_own window then None else Some (window.target, window.offset)

-- The row of the region, and the offset in it, for which an alias stands: its range lies in the region's own window.
abbrev pub target_at : List Window → RegionPlan → (address : ℕ) → Option (ℕ × ℕ)
target_at windows plan address =
    option_map
    (λ window. (window.owner, offset_in window address))
    (find (λ window. is_own window && has_range plan.kind address plan.size window) windows)

-- The target of a region that is an alias.
abbrev pub target_of : List Window → RegionPlan → Form → Option (ℕ × ℕ)
target_of windows plan (Alias address) = target_at windows plan address
target_of windows plan form = None

-- A region is an alias whose range lies in no region's own window.
abbrev pub lacks_target : List Window → RegionPlan → Form → Bool
lacks_target windows plan (Alias address) = is_none (target_at windows plan address)
lacks_target windows plan form = false

-- The lesser of a row and of another, if there is one.
abbrev pub lesser : ℕ → Option ℕ → ℕ
lesser row None = row
lesser row (Some other) = min row other

-- The least row that has one of these windows.
abbrev pub least_row : List Window → Option ℕ
least_row [] = None
least_row (window ∷ windows) = Some (lesser window.owner (least_row windows))

-- Why a region isn't added: its row has a window, or else its window would meet one, or else it is an alias of nothing.
abbrev pub refusal_in : List Window → Region → Option Refusal
refusal_in windows region =
    option_or
    (then_some (list_any (is_of region.row) windows) refusal.Live)
    (option_or
    (option_map refusal.Overlap (least_row (filter (meets (window_of region None)) windows)))
    (then_some (lacks_target windows region.plan region.plan.form) refusal.AliasTarget))

-- What is handed over of a region that isn't refused.
abbrev pub unless_refused : {A : Type 0} → Option Refusal → Option A → Option A
unless_refused None given = given
unless_refused (Some why) given = None

-- The space hands over why it refuses a region, or the target of one that is an alias.
abbrev pub AgreesToAdd : List Window → Region → Carry → Type 0
AgreesToAdd windows region c =
    (c.stopped ≡ refusal_in windows region)
    × (c.target ≡ unless_refused (refusal_in windows region) (target_of windows region.plan region.plan.form))

-- A reply says that a region is dropped; what changed the body decides.
abbrev pub is_dropped : Reply → Bool
is_dropped (reply.Drop (Ok changes)) = true
is_dropped r = false

-- A region that has a window is dropped, and the target of one that is an alias is handed over.
abbrev pub AgreesToDrop : (window : Option Window) → Reply → (target : Option (ℕ × ℕ)) → Type 0
AgreesToDrop None r target = (r ≡ reply.Drop (Err refusal.NotLive)) × (target ≡ None)
AgreesToDrop (Some window) r target = (is_dropped r ≡ true) × (target ≡ alias_in window)

-- The window that holds a range is handed over; where none does, the reply says so, and no body is asked.
abbrev pub HandsWindow : (found : Option Window) → (refused : Reply) → Reply → Carry → Type 0
HandsWindow None refused r c = (r ≡ refused) × (c.window ≡ None) × (c.area ≡ None)
HandsWindow (Some window) refused r c = c.window ≡ Some window

-- Of a file that is there the whole is loaded into a window's range; of another the files say why not.
abbrev pub AgreesToLoad : List Window → (address : ℕ) → (file : Option (List ℕ)) → Reply → Carry → Type 0
AgreesToLoad windows address None r c = (c.window ≡ None) × (c.area ≡ None)
AgreesToLoad windows address (Some bytes) r c =
    HandsWindow (window_at windows Memory address (length bytes)) (reply.Load (Err refusal.NoWindow)) r c

-- A tick goes to the clock that is live; where none is, the reply says so, and no body is asked.
abbrev pub Ticks : (clock : Option (ℕ × ℕ)) → Reply → Carry → Type 0
Ticks None r c = (r ≡ reply.Tick None) × (c.clock ≡ None) × (c.parent ≡ None)
Ticks (Some clock) r c = c.clock ≡ Some clock

-- The window that holds a range of an instruction's addresses.
abbrev pub reached : List Window → (address size : ℕ) → Option Window
reached windows address size = option_and_then (λ place. window_at windows place.0 place.1 size) (guest_place address)

-- A space agrees to the list of its windows, to an addition and a removal as its windows allow them, to an access from
-- outside by the window that holds it, to a tick by its clock, and to a fault where no window holds the access.
abbrev pub SpaceAgrees : SpaceState → Step → Reply → Carry → Type 0
SpaceAgrees space (step.Regions s) r c = r ≡ reply.Regions (Ok (map listed space.windows))
SpaceAgrees space (step.Add s) r c =
    IsSomeAnd (region_of s.generation c.row c.plan) (λ region. AgreesToAdd space.windows region c)
SpaceAgrees space (step.Drop s) r c = IsSomeAnd c.row (λ row. AgreesToDrop (find (is_of row) space.windows) r c.target)
SpaceAgrees space (step.Load s) r c = AgreesToLoad space.windows s.address c.bytes r c
SpaceAgrees space (step.Mem s) r c =
    HandsWindow (window_at space.windows Memory s.address s.count) (reply.Mem (Err refusal.NoWindow)) r c
SpaceAgrees space (step.Tick s) r c = Ticks space.clock r c
SpaceAgrees space (step.Fault s) r c = reached space.windows s.address s.size ≡ None
SpaceAgrees space _ r c = ⊥

-- The space with a region's window, whose target is handed over; the guest's clock is live from then on.
abbrev pub with_region : SpaceState → (target : Option (ℕ × ℕ)) → Region → SpaceState
with_region space target region = record {
  windows = put_in_order (window_of region target) space.windows;
  clock = if region.plan.clock then Some (region.row, region.birth) else space.clock;
}

-- The clock once a row is dropped.
abbrev pub clock_without : (row : ℕ) → (clock : Option (ℕ × ℕ)) → Option (ℕ × ℕ)
clock_without row None = None
clock_without row (Some clock) = if clock.0 == row then None else Some clock

-- The space without a row's window and those that lead to it; its clock is live no more.
abbrev pub without_region : SpaceState → (row : ℕ) → SpaceState
without_region space row = record {
  windows = without_target row (without_owner row space.windows);
  clock = clock_without row space.clock;
}

-- An addition and a removal that aren't refused alone change the space.
abbrev pub space_after : SpaceState → Step → Reply → Carry → SpaceState
space_after space (step.Add s) (reply.Add (Ok changes)) c =
    option_map_or (with_region space c.target) (region_of s.generation c.row c.plan) space
space_after space (step.Drop s) (reply.Drop (Ok changes)) c = option_map_or (without_region space) c.row space
space_after space _ r c = space
