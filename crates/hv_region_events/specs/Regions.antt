-- What steps add and drop regions, what they touch, and what is wanted of what they hand over.
use Rattle.std.specs.Prelude.{◌≡◌, ℕ, List, [], ◌∷◌, Some}
use Rattle.hv_answer.specs.declared.reply.Reply.{Reply}
use Rattle.hv_event.specs.declared.event.CellId.{CellId}
use Rattle.hv_event.specs.declared.event.CellId.TheVariants as component
use Rattle.hv_kinds.specs.declared.generation.Generation.{Generation}
use Rattle.hv_region.specs.declared.plan.RegionPlan.{RegionPlan}
use Rattle.hv_rules.specs.Carry.{Carry}
use Rattle.hv_step.specs.declared.step.Step.{Step}
use Rattle.hv_step.specs.declared.step.Step.TheVariants as step

-- A step adds a region to a guest.
abbrev pub IsAdd : Step → Type 0
IsAdd (step.Add s) = Unit {0}
IsAdd _ = ⊥

-- A step drops a region of a guest.
abbrev pub IsDrop : Step → Type 0
IsDrop (step.Drop s) = Unit {0}
IsDrop _ = ⊥

-- A step that is refused touches the directory, the pool and the guest's space.
abbrev pub refused_parts : Generation → List CellId
refused_parts guest = component.Dir ∷ component.Shelf ∷ component.Space guest.slot ∷ []

-- A step that is made touches the body of a row too.
abbrev pub changed_parts : Generation → (row : ℕ) → List CellId
changed_parts guest row = component.Dir ∷ component.Shelf ∷ component.Space guest.slot ∷ component.Body guest.slot row ∷ []

-- A row is handed over.
abbrev pub OfRow : (row : ℕ) → Reply → Carry → Type 0
OfRow row r c = c.row ≡ Some row

-- A row is handed over, and its plan with the number of the guest's VCPUs.
abbrev pub OfPlan : (row : ℕ) → RegionPlan → (vcpus : ℕ) → Reply → Carry → Type 0
OfPlan row plan vcpus r c = (c.row ≡ Some row) × (c.plan ≡ Some (plan, vcpus))
