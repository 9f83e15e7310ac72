-- The guest that the directory gives a step, by its name and its stage.
use Rattle.std.proofs.Common.{◌≡◌, ℕ, List, [], ◌∷◌, Option, Some, ap}
use Rattle.std.specs.Prelude.{Result, Ok}
use Rattle.hv_dir.specs.Directory.{DirState}
use Rattle.hv_event.specs.declared.event.CellId.TheVariants as component
use Rattle.hv_guest_steps.specs.Admission.{asked_of}
use Rattle.hv_kinds.specs.declared.generation.Generation.{Generation}
use Rattle.hv_kinds.specs.declared.stage.Stage.TheVariants.{Made}
use Rattle.hv_refusal.specs.declared.refusal.Refusal.{Refusal}
use Rattle.hv_rules.specs.Dir.{guest_in}
use Rattle.hv_rules.specs.Footprint.{past_dir}
use Rattle.hv_step.specs.declared.step.Step.{Step}
use Rattle.hv_step.specs.declared.step.Step.TheVariants as step
use Rattle.hv_guest_events.specs.Kinds.{IsDeviceStep, device_guest}

-- A step on a device asks for a guest that is made.
pub device-granted : (d : DirState) (s : Step) (row : ℕ) (guest : Generation) → IsDeviceStep s → asked_of d s (Some row) ≡ Some (Ok guest) → guest_in d (device_guest s) Made ≡ Ok guest
device-granted d (step.Devreset s) row guest is granted = cc granted
device-granted d (step.Feed s) row guest is granted = cc granted
device-granted d (step.Output s) row guest is granted = cc granted
device-granted d _ row guest is granted = absurd is

-- A step that shows a guest touches the guest's body of a row,
pub shown-body : (shown : Option Generation) (guest : Generation) (row : ℕ) → shown ≡ Some guest
    → past_dir shown (λ there. component.Body there.slot row ∷ []) ≡ component.Dir ∷ component.Body guest.slot row ∷ []
shown-body shown guest row is = ap (λ (g : Option Generation). past_dir g (λ there. component.Body there.slot row ∷ [])) is

-- or its space.
pub shown-space : (shown : Option Generation) (guest : Generation) → shown ≡ Some guest
    → past_dir shown (λ there. component.Space there.slot ∷ []) ≡ component.Dir ∷ component.Space guest.slot ∷ []
shown-space shown guest is = ap (λ (g : Option Generation). past_dir g (λ there. component.Space there.slot ∷ [])) is

-- What the directory gives a step is the guest that it shows.
pub given-guest : (d : DirState) (name : List ℕ) (guest : Generation) → ◌≡◌ {A = Option (Result Generation Refusal)} (Some (guest_in d name Made)) (Some (Ok guest)) → guest_in d name Made ≡ Ok guest
given-guest d name guest granted = cc granted
