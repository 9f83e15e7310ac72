-- When the directory, which stands first, refuses a step by guest.
use Rattle.std.specs.Prelude.{◌≡◌, ℕ, Option, None, Some, Result, Err, List, ◌∷◌}
use Rattle.hv_guest_steps.specs.Admission.{asked_of, shown_by}
use Rattle.hv_kinds.specs.declared.generation.Generation.{Generation}
use Rattle.hv_parts.specs.Value.{PartValue, Dir}
use Rattle.hv_refusal.specs.declared.refusal.Refusal.{Refusal}
use Rattle.hv_region.specs.declared.plan.RegionPlan.{RegionPlan}
use Rattle.hv_rules.specs.Carry.{Carry, nothing}
use Rattle.hv_rules.specs.Handed.{handed_over}
use Rattle.hv_step.specs.declared.step.Step.{Step}

-- What the first component gives a step that asks for a guest, and for a row of the guest's plan where it is on a
-- region.
abbrev pub asked_first : List PartValue → Step → (row : Option ℕ) → Option (Result Generation Refusal)
asked_first (Dir directory ∷ values) s row = asked_of directory s row
asked_first values s row = None

-- A step by guest is refused for this reason, and shows no generation.
pub record IsRefused (values : List PartValue) (s : Step) (row : Option ℕ) (why : Refusal) : Type 0 where
  pub shown : shown_by s ≡ None
  pub refused : asked_first values s row ≡ Some (Err why)

-- What a step hands over that is refused: the row and the plan of the region, as far as the step names them.
abbrev pub refused_carry : Step → (row : Option ℕ) → (plan : Option (RegionPlan × ℕ)) → Carry
refused_carry s row plan = handed_over s (record nothing { row = row; plan = plan })
