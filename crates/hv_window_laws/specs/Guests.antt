-- The guests of a board, and what a step changes of them.
use Rattle.std.specs.Prelude.{◌≡◌, ◌<◌, ℕ, List, [], Option, None, Result, Ok, IfSome}
use Rattle.std.specs.List.{list_any}
use Rattle.hv_dir.specs.Directory.{DirState, guest_at}
use Rattle.hv_dir.specs.declared.refusal.DirRefusal.{DirRefusal}
use Rattle.hv_emu.specs.Device.{DevState}
use Rattle.hv_event.specs.declared.event.CellId.{CellId}
use Rattle.hv_event.specs.declared.event.CellId.TheVariants.{Dir, Shelf, Space, Body}
use Rattle.hv_kinds.specs.declared.stage.Stage.{Stage}
use Rattle.hv_model.specs.Cell.{same_component}
use Rattle.hv_region.specs.Plans.{IsRegionPlan}
use Rattle.hv_region.specs.declared.plan.RegionPlan.{RegionPlan}
use Rattle.hv_rules.specs.Body.{BodyValue, BodyAgrees, body_after}
use Rattle.hv_rules.specs.Carry.{Carry}
use Rattle.hv_rules.specs.Dir.{DirAgrees, dir_after}
use Rattle.hv_rules.specs.Footprint.{components}
use Rattle.hv_rules.specs.Shelf.{ShelfAgrees, shelf_after}
use Rattle.hv_rules.specs.Space.{SpaceAgrees, space_after}
use Rattle.hv_space.specs.Space.{SpaceState}
use Rattle.hv_step.specs.declared.step.Step.{Step}
use Rattle.hv_step.specs.declared.step.Step.TheVariants as step
use Rattle.hv_text.specs.declared.limits.TheConstants.{GUEST_REGIONS}
use Rattle.hv_laws.specs.Board.{Made, Becomes}

-- The directory, the devices that no guest has, and for each slot the guest's address space and the contents of its
-- regions by row.
pub record Guests : Type 0 where
  pub dir : DirState
  pub shelf : List DevState
  pub spaces : (slot : ℕ) → SpaceState
  pub bodies : (slot row : ℕ) → BodyValue

-- What a step does to the guests, where it touches these components.
pub record Changes (touched : List CellId) (before after : Guests) (made : Made) : Type 0 where
  pub dir :
      Becomes
      (list_any (same_component Dir) touched)
      (DirAgrees before.dir made.step made.reply made.carry)
      (dir_after before.dir made.step made.reply made.carry)
      before.dir
      after.dir
  pub shelf :
      Becomes
      (list_any (same_component Shelf) touched)
      (ShelfAgrees before.shelf made.step made.reply made.carry)
      (shelf_after before.shelf made.step made.reply made.carry)
      before.shelf
      after.shelf
  pub spaces : (slot : ℕ)
      → Becomes
      (list_any (same_component (Space slot)) touched)
      (SpaceAgrees (before.spaces slot) made.step made.reply made.carry)
      (space_after (before.spaces slot) made.step made.reply made.carry)
      (before.spaces slot)
      (after.spaces slot)
  pub bodies : (slot row : ℕ)
      → Becomes
      (list_any (same_component (Body slot row)) touched)
      (BodyAgrees row (before.bodies slot row) made.step made.reply made.carry)
      (body_after row (before.bodies slot row) made.step made.reply made.carry)
      (before.bodies slot row)
      (after.bodies slot row)

-- A region that is added has a row of a guest and a plan by which a region can be.
pub record IsRegion (row : Option ℕ) (plan : Option (RegionPlan × ℕ)) : Type 0 where
  pub is_row : IfSome row (λ number. number < GUEST_REGIONS)
  pub is_plan : IfSome plan (λ planned. IsRegionPlan planned.0)

-- A guest whose slot is let go has no window left.
abbrev pub LeavesNoWindow : Guests → (guest : Result (ℕ × ℕ) DirRefusal) → (next : Option Stage) → Type 0
LeavesNoWindow guests (Ok guest) None = (guests.spaces guest.0).windows ≡ []
LeavesNoWindow guests guest next = Unit {0}

-- What is asked of an actor besides what the components see to: it adds regions that can be, and lets a slot go only
-- once the guest there has no window.
abbrev pub IsInOrder : Guests → Step → Carry → Type 0
IsInOrder guests (step.Add s) c = IsRegion c.row c.plan
IsInOrder guests (step.Stage s) c = LeavesNoWindow guests (guest_at guests.dir s.name s.from) s.to
IsInOrder guests _ c = Unit {0}

-- A step on a board with this many harts: it changes the components that it touches. Harts and terminals may make any
-- step that is in order and to which the components agree.
pub record IsStep (count : ℕ) (before after : Guests) (made : Made) : Type 0 where
  pub components : Changes (components count made.by made.step made.reply made.carry) before after made
  pub in_order : IsInOrder before made.step made.carry
