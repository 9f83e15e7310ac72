-- The steps of each kind, and what is wanted of what comes of them.
use Rattle.std.specs.Prelude.{◌≡◌, ℕ, Option, Some, None, Err, List, []}
use Rattle.hv_answer.specs.declared.reply.Reply.{Reply}
use Rattle.hv_board.specs.Board.{part_at}
use Rattle.hv_board.specs.declared.board.Board.{Board}
use Rattle.hv_dir.specs.Directory.{DirState}
use Rattle.hv_event.specs.declared.event.CellId.TheVariants as component
use Rattle.hv_guest_steps.specs.Admission.{asked_of, shown_by}
use Rattle.hv_parts.specs.declared.part.Part.TheVariants as part
use Rattle.hv_refusal.specs.declared.refusal.Refusal.{Refusal}
use Rattle.hv_region.specs.declared.plan.RegionPlan.{RegionPlan}
use Rattle.hv_region_steps.specs.Refused.{refused_carry}
use Rattle.hv_rules.specs.Carry.{Carry}
use Rattle.hv_step.specs.declared.step.Step.{Step}
use Rattle.hv_step.specs.declared.step.Step.TheVariants as step

-- A step touches the directory alone.
abbrev pub IsDirectoryStep : Step → Type 0
IsDirectoryStep (step.Guests s) = Unit {0}
IsDirectoryStep (step.Name s) = Unit {0}
IsDirectoryStep (step.Stage s) = Unit {0}
IsDirectoryStep _ = ⊥

-- A step lists the windows of a guest.
abbrev pub IsRegionsStep : Step → Type 0
IsRegionsStep (step.Regions s) = Unit {0}
IsRegionsStep _ = ⊥

-- A step is made on the device of a region.
abbrev pub IsDeviceStep : Step → Type 0
IsDeviceStep (step.Devreset s) = Unit {0}
IsDeviceStep (step.Feed s) = Unit {0}
IsDeviceStep (step.Output s) = Unit {0}
IsDeviceStep _ = ⊥

-- The name of its guest.
abbrev pub device_guest : Step → List ℕ
device_guest (step.Devreset s) = s.name
device_guest (step.Feed s) = s.name
device_guest (step.Output s) = s.name
device_guest _ = []

-- Why a name was refused before is handed over of a claim.
abbrev pub StoppedBy : Option Refusal → Step → Reply → Carry → Type 0
StoppedBy stopped (step.Name s) r c = c.stopped ≡ stopped
StoppedBy stopped _ r c = Unit {0}

-- A row is handed over.
abbrev pub OfRow : (row : ℕ) → Reply → Carry → Type 0
OfRow row r c = c.row ≡ Some row

-- The row and the plan of a region are handed over, as far as a step that is refused names them.
abbrev pub OfRefused : Step → (row : Option ℕ) → (plan : Option (RegionPlan × ℕ)) → Reply → Carry → Type 0
OfRefused s row plan r c = c ≡ refused_carry s row plan

-- The directory of a board refuses a step by guest, which shows none.
pub record IsRefusedOn {E : Type 0} (board : Board E) (s : Step) (row : Option ℕ) (why : Refusal) : Type 0 where
  pub shown : shown_by s ≡ None
  pub refused : (d : DirState) → part_at board component.Dir ≡ Some (part.Dir d) → asked_of d s row ≡ Some (Err why)
