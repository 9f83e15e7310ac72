-- What steps by guest ask of the directory, and what they show of its answer.
use Rattle.std.specs.Prelude.{ℕ, Option, Some, None, Result, option_map, option_and_then}
use Rattle.hv_dir.specs.Directory.{DirState}
use Rattle.hv_kinds.specs.declared.generation.Generation.{Generation}
use Rattle.hv_kinds.specs.declared.stage.Stage.TheVariants.{Made}
use Rattle.hv_refusal.specs.declared.refusal.Refusal.{Refusal}
use Rattle.hv_step.specs.declared.step.ByGuest.{ByGuest}
use Rattle.hv_step.specs.declared.step.Step.{Step}
use Rattle.hv_step.specs.declared.step.Step.TheVariants as step
use Rattle.hv_rules.specs.Dir.{guest_in, with_region}

-- The guest by which a VCPU's step is made, which has to be made itself; a step by number asks for none.
abbrev pub asked_by : DirState → Option ByGuest → Option (Result Generation Refusal)
asked_by d by = option_map (λ guest. guest_in d guest.name Made) by

-- What the directory gives a step that asks for a guest, and for a row of the guest's plan where it is on a region.
abbrev pub asked_of : DirState → Step → (row : Option ℕ) → Option (Result Generation Refusal)
asked_of d (step.Add s) row = Some (with_region row (guest_in d s.name s.stage))
asked_of d (step.Drop s) row = Some (with_region row (guest_in d s.name s.stage))
asked_of d (step.Regions s) row = Some (guest_in d s.name Made)
asked_of d (step.Load s) row = Some (guest_in d s.name Made)
asked_of d (step.Mem s) row = Some (guest_in d s.name Made)
asked_of d (step.Devreset s) row = Some (with_region row (guest_in d s.name Made))
asked_of d (step.Feed s) row = Some (with_region row (guest_in d s.name Made))
asked_of d (step.Output s) row = Some (with_region row (guest_in d s.name Made))
asked_of d (step.Kick s) row = asked_by d s.guest
asked_of d (step.Resume s) row = asked_by d s.guest
asked_of d (step.Pause s) row = asked_by d s.guest
asked_of d (step.Halt s) row = asked_by d s.guest
asked_of d (step.Reset s) row = asked_by d s.guest
asked_of d _ row = None

-- The generation of a guest that a step shows.
abbrev pub shown_by : Step → Option Generation
shown_by (step.Add s) = s.generation
shown_by (step.Drop s) = s.generation
shown_by (step.Regions s) = s.generation
shown_by (step.Load s) = s.generation
shown_by (step.Mem s) = s.generation
shown_by (step.Devreset s) = s.generation
shown_by (step.Feed s) = s.generation
shown_by (step.Output s) = s.generation
shown_by (step.Kick s) = option_and_then (λ guest. guest.generation) s.guest
shown_by (step.Resume s) = option_and_then (λ guest. guest.generation) s.guest
shown_by (step.Pause s) = option_and_then (λ guest. guest.generation) s.guest
shown_by (step.Halt s) = option_and_then (λ guest. guest.generation) s.guest
shown_by (step.Reset s) = option_and_then (λ guest. guest.generation) s.guest
shown_by _ = None
