-- How the interrupt steps are kept that an actor owes.
use Rattle.std.specs.Prelude.{◌≢◌, ◌<◌, ℕ, Option, None, Some, List, [], ◌∷◌, filter, map}
use Rattle.hv_kinds.specs.declared.generation.Generation.{Generation}
use Rattle.hv_rules.specs.Owed.{has_changed, pin_step}
use Rattle.hv_programs.specs.declared.owed.OwedStep.{OwedStep}
use Rattle.hv_programs.specs.declared.owed.OwedStep.TheVariants.{Sample, Pin}
use Rattle.hv_step.specs.declared.step.Pin.{Pin as PinStep}
use Rattle.hv_step.specs.declared.step.Sample.{Sample as SampleStep}
use Rattle.hv_step.specs.declared.step.Step.{Step}
use Rattle.hv_step.specs.declared.step.Step.TheVariants as step
use Rattle.hv_text.specs.declared.limits.TheConstants.{GUEST_REGIONS, SLOTS, VCPUS}

-- The step that is owed.
abbrev pub step_of : OwedStep → Step
step_of (Sample sample) = step.Sample sample
step_of (Pin pin) = step.Pin pin

-- A region's interrupts go to another region of its guest, if to any.
abbrev pub IsParent : (row : ℕ) → (parent : Option (ℕ × ℕ)) → Type 0
IsParent row None = Unit {0}
IsParent row (Some parent) = (parent.0 < GUEST_REGIONS) × (row ≢ parent.0)

-- A sample that is owed is of two regions of a guest.
pub record IsSampleOwed (s : SampleStep) : Type 0 where
  pub slot : s.generation.slot < SLOTS
  pub row : s.row < GUEST_REGIONS
  pub parent : s.parent < GUEST_REGIONS
  pub apart : s.row ≢ s.parent

-- A pin step that is owed is of a region and a VCPU of the board.
pub record IsPinOwed (s : PinStep) : Type 0 where
  pub slot : s.generation.slot < SLOTS
  pub row : s.row < GUEST_REGIONS
  pub vcpu : s.vcpu < VCPUS

-- The steps that an actor may owe.
abbrev pub IsOwed : Step → Type 0
IsOwed (step.Sample s) = IsSampleOwed s
IsOwed (step.Pin s) = IsPinOwed s
IsOwed _ = ⊥

-- The steps that an actor owes, the next one first, and for how many more there is room.
pub record OwedSteps : Type 0 where
  pub steps : List Step
  pub room : ℕ

-- The step of one VCPU's pins, if they changed.
abbrev pub pin_at : Generation → (row pins index : ℕ) → List Step
pin_at generation row pins index = map (pin_step generation row) (filter (has_changed pins) (index ∷ []))
