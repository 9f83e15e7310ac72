-- When the directory, which is the first component of a step, admits the step.
use Rattle.std.specs.Prelude.{◌≡◌, ℕ, Option, None, Some, IsSome, List, ◌∷◌}
use Rattle.std.specs.Option.{option_map_or}
use Rattle.std.specs.Result.{result_ok}
use Rattle.hv_kinds.specs.declared.generation.Generation.{Generation}
use Rattle.hv_kinds.specs.declared.stage.Stage.{Stage}
use Rattle.hv_kinds.specs.declared.stage.Stage.TheVariants.{Made}
use Rattle.hv_parts.specs.Value.{PartValue, Dir}
use Rattle.hv_rules.specs.Dir.{guest_in}
use Rattle.hv_step.specs.declared.step.ByGuest.{ByGuest}

-- The generation of the guest with a name, which has to be at a stage, as the first component gives it.
abbrev pub guest_first : List PartValue → (name : List ℕ) → Stage → Option Generation
guest_first (Dir directory ∷ values) name stage = result_ok (guest_in directory name stage)
guest_first values name stage = None

-- A step is admitted: it shows the generation that the directory gives.
pub record IsAdmitted (values : List PartValue) (name : List ℕ) (stage : Stage) (shown : Option Generation) : Type 0 where
  pub there : IsSome shown
  pub granted : shown ≡ guest_first values name stage

-- A step of a VCPU is admitted where it is by number, and where it is by a guest that is made.
abbrev pub IsAdmittedBy : List PartValue → Option ByGuest → Type 0
IsAdmittedBy values None = Unit {0}
IsAdmittedBy values (Some guest) = IsAdmitted values guest.name Made guest.generation

-- How many directories stand first where a VCPU's step is made.
abbrev pub directories : Option ByGuest → ℕ
directories guest = option_map_or (λ by. 1) guest 0
