-- Steps by guest that the directory, which stands alone, refuses.
use Rattle.std.proofs.Common.{◌≡◌, ℕ, List, [], ◌∷◌, Option, None, Some, refl, sym, subst, ap, ◌∙◌}
use Rattle.std.specs.Prelude.{Err, option_and_then}
use Rattle.hv_answer.specs.declared.reply.Reply.{Reply}
use Rattle.hv_dir.specs.Directory.{DirState}
use Rattle.hv_event.specs.declared.event.ActorId.{ActorId}
use Rattle.hv_event.specs.declared.event.CellId.{CellId}
use Rattle.hv_event.specs.declared.event.CellId.TheVariants as component
use Rattle.hv_guest_steps.specs.Admission.{asked_of, asked_by, shown_by}
use Rattle.hv_handed.proofs.Learnt.{IsSilent}
use Rattle.hv_handed.specs.Takes.{DirTakes}
use Rattle.hv_kinds.specs.declared.generation.Generation.{Generation}
use Rattle.hv_parts.specs.Kinds.{AreOf}
use Rattle.hv_parts.specs.Takes.{AllTake}
use Rattle.hv_parts.specs.Value as value
use Rattle.hv_parts.specs.Value.{PartValue}
use Rattle.hv_refusal.specs.declared.refusal.Refusal.{Refusal}
use Rattle.hv_region.specs.declared.plan.RegionPlan.{RegionPlan}
use Rattle.hv_rules.specs.Carry.{Carry, nothing}
use Rattle.hv_rules.specs.Footprint.{components, past_dir, past_dir_if}
use Rattle.hv_rules.specs.Handed.{handed_over}
use Rattle.hv_step.specs.declared.step.ByGuest.{ByGuest}
use Rattle.hv_step.specs.declared.step.Step.{Step}
use Rattle.hv_step.specs.declared.step.Step.TheVariants as step
use Rattle.hv_region_steps.specs.Refused.{IsRefused, asked_first, refused_carry}

-- Such a step hands over a row and a plan alone.
carry-alone :
    (s : Step) (row : Option ℕ) (plan : Option (RegionPlan × ℕ))
    → refused_carry s row plan ≡ record nothing { row = (refused_carry s row plan).row; plan = (refused_carry s row plan).plan }
carry-alone (step.Add s) row plan = refl
carry-alone _ row plan = refl

-- It asks the directory for the row that it hands over.
asked-alone : (d : DirState) (s : Step) (row : Option ℕ) (plan : Option (RegionPlan × ℕ)) → asked_of d s (refused_carry s row plan).row ≡ asked_of d s row
asked-alone d (step.Add s) row plan = refl
asked-alone d _ row plan = refl

-- What is handed over is what the step's row names.
pub over-again : (s : Step) (c : Carry) → handed_over s (handed_over s c) ≡ handed_over s c
over-again (step.Add s) c = refl
over-again _ c = refl

-- The actor learns nothing of it.
pub refused-silent : (s : Step) (row : Option ℕ) (plan : Option (RegionPlan × ℕ)) → IsSilent (refused_carry s row plan)
refused-silent (step.Add s) row plan = (refl, refl, refl, refl, refl)
refused-silent _ row plan = (refl, refl, refl, refl, refl)

-- A step that shows no generation touches the directory alone.
past-none : (shown : Option Generation) (later : Generation → List CellId) → shown ≡ None → past_dir shown later ≡ component.Dir ∷ []
past-none None later is = refl
past-none (Some g) later is = absurd (cc)

-- The same of a VCPU's step by guest.
past-by :
    (d : DirState) (guest : Option ByGuest) (later : List CellId) (why : Refusal) → option_and_then (λ by. by.generation) guest ≡ None
    → asked_by d guest ≡ Some (Err why) → past_dir_if guest later ≡ component.Dir ∷ []
past-by d None later why shown asked = absurd (cc)
past-by d (Some guest) later why shown asked = past-none guest.generation (λ g. later) shown

touches :
    (harts : ℕ) (by : ActorId) (s : Step) (r : Reply) (c : Carry) (d : DirState) (row : Option ℕ) (why : Refusal) → shown_by s ≡ None
    → asked_of d s row ≡ Some (Err why) → components harts by s r c ≡ component.Dir ∷ []
touches harts by (step.Add s) r c d row why shown asked = past-none s.generation _ shown
touches harts by (step.Drop s) r c d row why shown asked = past-none s.generation _ shown
touches harts by (step.Regions s) r c d row why shown asked = past-none s.generation _ shown
touches harts by (step.Load s) r c d row why shown asked = past-none s.generation _ shown
touches harts by (step.Mem s) r c d row why shown asked = past-none s.generation _ shown
touches harts by (step.Devreset s) r c d row why shown asked = past-none s.generation _ shown
touches harts by (step.Feed s) r c d row why shown asked = past-none s.generation _ shown
touches harts by (step.Output s) r c d row why shown asked = past-none s.generation _ shown
touches harts by (step.Kick s) r c d row why shown asked = past-by d s.guest _ why shown asked
touches harts by (step.Resume s) r c d row why shown asked = past-by d s.guest _ why shown asked
touches harts by (step.Pause s) r c d row why shown asked = past-by d s.guest _ why shown asked
touches harts by (step.Halt s) r c d row why shown asked = past-by d s.guest _ why shown asked
touches harts by (step.Reset s) r c d row why shown asked = past-by d s.guest _ why shown asked
touches harts by _ r c d row why shown asked = absurd (cc asked)

-- The directory stands alone.
pub alone-is : (vs : List PartValue) → AreOf (component.Dir ∷ []) vs → (d : DirState) × (vs ≡ value.Dir d ∷ [])
alone-is [] are = absurd are
alone-is (value.Dir d ∷ []) are = (d, refl)
alone-is (value.Shelf x ∷ []) are = absurd are.0
alone-is (value.Files x ∷ []) are = absurd are.0
alone-is (value.Space x ∷ []) are = absurd are.0
alone-is (value.Queue x ∷ []) are = absurd are.0
alone-is (value.Vcpu x ∷ []) are = absurd are.0
alone-is (value.Body x ∷ []) are = absurd are.0
alone-is (value.Area x ∷ []) are = absurd are.0
alone-is (v ∷ w ∷ vs) are = absurd are.1

-- What is asked of the directory.
asked-there : (vs : List PartValue) (d : DirState) (s : Step) (row : Option ℕ) → vs ≡ value.Dir d ∷ [] → asked_first vs s row ≡ asked_of d s row
asked-there vs d s row is = ap (λ (ws : List PartValue). asked_first ws s row) is

-- A step that is refused touches the directory alone.
pub refused-touches :
    (harts : ℕ) (by : ActorId) (s : Step) (r : Reply) (c : Carry) (row : Option ℕ) (why : Refusal) (vs : List PartValue) → AreOf (component.Dir ∷ []) vs
    → IsRefused vs s row why → components harts by s r c ≡ component.Dir ∷ []
refused-touches harts by s r c row why vs are is =
    let there = alone-is vs are in
    touches harts by s r c there.0 row why is.shown (sym (asked-there vs there.0 s row there.1) ∙ is.refused)

-- The directory takes it as it is.
pub refused-take :
    (by : ActorId) (s : Step) (r : Reply) (c : Carry) (row : Option ℕ) (plan : Option (RegionPlan × ℕ)) (why : Refusal) (vs : List PartValue)
    → ((d : DirState) (row : Option ℕ) (plan : Option (RegionPlan × ℕ)) → asked_of d s row ≡ Some (Err why) → shown_by s ≡ None
    → DirTakes s r (record nothing { row = row; plan = plan }) d d)
    → c ≡ refused_carry s row plan → AreOf (component.Dir ∷ []) vs → IsRefused vs s row why → AllTake by (component.Dir ∷ []) s r c vs vs
refused-take by s r c row plan why vs takes carried are is =
    let there = alone-is vs are in
    let d : DirState = there.0 in
    let k : Carry = refused_carry s row plan in
    let asked : asked_of d s row ≡ Some (Err why) = sym (asked-there vs d s row there.1) ∙ is.refused in
    let took : DirTakes s r (record nothing { row = k.row; plan = k.plan }) d d = takes d k.row k.plan (asked-alone d s row plan ∙ asked) is.shown in
    let same : c ≡ record nothing { row = k.row; plan = k.plan } = carried ∙ carry-alone s row plan in
    subst (λ (ws : List PartValue). AllTake by (component.Dir ∷ []) s r c ws ws) (sym there.1)
    (subst (λ (x : Carry). DirTakes s r x d d) (sym same) took, tt)
