-- When the directory admits a step by guest, which then shows the guest.
use Rattle.std.specs.Prelude.{◌≡◌, ℕ, Option, Some, Ok, List}
use Rattle.hv_board.specs.Board.{part_at}
use Rattle.hv_board.specs.declared.board.Board.{Board}
use Rattle.hv_dir.specs.Directory.{DirState}
use Rattle.hv_event.specs.declared.event.CellId.TheVariants as component
use Rattle.hv_guest_steps.specs.Admission.{asked_of, shown_by}
use Rattle.hv_kinds.specs.declared.generation.Generation.{Generation}
use Rattle.hv_parts.specs.Value.{PartValue}
use Rattle.hv_parts.specs.declared.part.Part.TheVariants as part
use Rattle.hv_region_steps.specs.Refused.{asked_first}
use Rattle.hv_step.specs.declared.step.Step.{Step}

-- The directory of a board gives a step the guest that the step shows; it is asked for a row of the guest's plan where
-- the step is on a region.
pub record IsGrantedOn {E : Type 0} (board : Board E) (s : Step) (row : Option ℕ) (guest : Generation) : Type 0 where
  pub shown : shown_by s ≡ Some guest
  pub granted : (d : DirState) → part_at board component.Dir ≡ Some (part.Dir d) → asked_of d s row ≡ Some (Ok guest)

-- The same of the directory that stands first among values.
pub record IsGrantedAt (values : List PartValue) (s : Step) (row : Option ℕ) (guest : Generation) : Type 0 where
  pub shown : shown_by s ≡ Some guest
  pub granted : asked_first values s row ≡ Some (Ok guest)
