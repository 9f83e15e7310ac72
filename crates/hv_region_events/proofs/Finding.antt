-- What comes of steps on regions, told by the case that holds, before they are made.
use Rattle.std.proofs.Common.{◌≡◌, ℕ, List, [], ◌∷◌, Option, None, Some, refl, sym, ap, subst, ◌∙◌}
use Rattle.std.specs.Prelude.{Ok, Err}
use Rattle.hv_answer.specs.declared.reply.Reply.{Reply}
use Rattle.hv_answer.specs.declared.reply.Reply.TheVariants as reply
use Rattle.hv_board.specs.Board.{AreInOrder, greatest_at}
use Rattle.hv_board.specs.declared.board.Board.{Board}
use Rattle.hv_board_steps.proofs.Ends.{finds}
use Rattle.hv_board_steps.specs.Happened.{FindsLast}
use Rattle.hv_event.specs.declared.event.ActorId.{ActorId}
use Rattle.hv_event.specs.declared.event.CellId.{CellId}
use Rattle.hv_event.specs.declared.event.CellId.TheVariants as component
use Rattle.hv_guest_steps.specs.Admission.{shown_by}
use Rattle.hv_kinds.specs.declared.generation.Generation.{Generation}
use Rattle.hv_refusal.specs.declared.refusal.Refusal.TheVariants as refusal
use Rattle.hv_region.specs.declared.plan.RegionPlan.{RegionPlan}
use Rattle.hv_region_steps.specs.Regions.{changed_row}
use Rattle.hv_rules.specs.Body.{no_changes}
use Rattle.hv_rules.specs.Carry.{Carry, nothing}
use Rattle.hv_rules.specs.Footprint.{changed_body, components, past_dir}
use Rattle.hv_rules.specs.Handed.{handed_over}
use Rattle.hv_step.specs.declared.step.Step.{Step}
use Rattle.hv_step.specs.declared.step.Step.TheVariants as step
use Rattle.hv_text.specs.declared.limits.TheConstants.{GREATEST_STAMP}
use Rattle.hv_region_events.specs.Regions.{IsAdd, IsDrop, OfPlan, OfRow, changed_parts, refused_parts}

-- The row, the plan and the target are handed over.
abbrev handing : (row : ℕ) → (plan : Option (RegionPlan × ℕ)) → (target : Option (ℕ × ℕ)) → Carry
handing row plan target = record nothing { row = Some row; plan = plan; target = target }

changes : (guest : Generation) (row : ℕ) (target : Option (ℕ × ℕ)) → changed_body guest (Some row) target ≡ component.Body guest.slot (changed_row row target) ∷ []
changes guest row None = refl
changes guest row (Some there) = refl

abbrev Outcome : (harts : ℕ) → ActorId → Step → Reply → Carry → List CellId → Type 0
Outcome harts by s r c xs = (components harts by s r c ≡ xs) × (handed_over s c ≡ c)

add-made : (harts : ℕ) (by : ActorId) (s : Step) (guest : Generation) (row : ℕ) (plan : RegionPlan × ℕ) (target : Option (ℕ × ℕ)) → IsAdd s → shown_by s ≡ Some guest
    → Outcome harts by s (reply.Add (Ok no_changes)) (handing row (Some plan) target) (changed_parts guest (changed_row row target))
add-made harts by (step.Add s) guest row plan target is shown = (
  ap (λ (g : Option Generation). past_dir g (λ there. component.Shelf ∷ component.Space there.slot ∷ changed_body there (Some row) target)) shown
      ∙ ap (λ (ys : List CellId). component.Dir ∷ component.Shelf ∷ component.Space guest.slot ∷ ys) (changes guest row target),
  refl,
)
add-made harts by _ guest row plan target is shown = absurd is

add-refused : (harts : ℕ) (by : ActorId) (s : Step) (guest : Generation) (row : ℕ) (plan : RegionPlan × ℕ) → IsAdd s → shown_by s ≡ Some guest
    → Outcome harts by s (reply.Add (Err refusal.Live)) (handing row (Some plan) None) (refused_parts guest)
add-refused harts by (step.Add s) guest row plan is shown = (
  ap (λ (g : Option Generation). past_dir g (λ there. component.Shelf ∷ component.Space there.slot ∷ [])) shown,
  refl,
)
add-refused harts by _ guest row plan is shown = absurd is

drop-made : (harts : ℕ) (by : ActorId) (s : Step) (guest : Generation) (row : ℕ) (target : Option (ℕ × ℕ)) → IsDrop s → shown_by s ≡ Some guest
    → Outcome harts by s (reply.Drop (Ok no_changes)) (handing row None target) (changed_parts guest (changed_row row target))
drop-made harts by (step.Drop s) guest row target is shown = (
  ap (λ (g : Option Generation). past_dir g (λ there. component.Shelf ∷ component.Space there.slot ∷ changed_body there (Some row) target)) shown
      ∙ ap (λ (ys : List CellId). component.Dir ∷ component.Shelf ∷ component.Space guest.slot ∷ ys) (changes guest row target),
  refl,
)
drop-made harts by _ guest row target is shown = absurd is

drop-refused : (harts : ℕ) (by : ActorId) (s : Step) (guest : Generation) (row : ℕ) → IsDrop s → shown_by s ≡ Some guest
    → Outcome harts by s (reply.Drop (Err refusal.NotLive)) (handing row None None) (refused_parts guest)
drop-refused harts by (step.Drop s) guest row is shown = (
  ap (λ (g : Option Generation). past_dir g (λ there. component.Shelf ∷ component.Space there.slot ∷ [])) shown,
  refl,
)
drop-refused harts by _ guest row is shown = absurd is

module _ {E : Type 0} (board : Board E) (by : ActorId) (own : ℕ) (s : Step) (guest : Generation) (row : ℕ) where
  -- An addition that would be made would be the last event.
  pub add-finds :
      (plan : RegionPlan) (vcpus : ℕ) (target : Option (ℕ × ℕ)) → IsAdd s → shown_by s ≡ Some guest
      → AreInOrder board.layout (changed_parts guest (changed_row row target)) → greatest_at board own (changed_parts guest (changed_row row target)) ≡ GREATEST_STAMP
      → FindsLast by own s (OfPlan row plan vcpus) board
  add-finds plan vcpus target is shown order last =
      let come = add-made board.layout.harts by s guest row (plan, vcpus) target is shown in
      finds board by own s (OfPlan row plan vcpus) (reply.Add (Ok no_changes)) (handing row (Some (plan, vcpus)) target) (changed_parts guest (changed_row row target))
      come.0 come.1 (refl, refl) order last

  -- So would one that would be refused.
  pub add-refusal-finds :
      (plan : RegionPlan) (vcpus : ℕ) → IsAdd s → shown_by s ≡ Some guest → AreInOrder board.layout (refused_parts guest)
      → greatest_at board own (refused_parts guest) ≡ GREATEST_STAMP → FindsLast by own s (OfPlan row plan vcpus) board
  add-refusal-finds plan vcpus is shown order last =
      let come = add-refused board.layout.harts by s guest row (plan, vcpus) is shown in
      finds board by own s (OfPlan row plan vcpus) (reply.Add (Err refusal.Live)) (handing row (Some (plan, vcpus)) None) (refused_parts guest) come.0 come.1 (refl, refl) order last

  -- A removal that would be made would be the last event.
  pub drop-finds :
      (target : Option (ℕ × ℕ)) → IsDrop s → shown_by s ≡ Some guest → AreInOrder board.layout (changed_parts guest (changed_row row target))
      → greatest_at board own (changed_parts guest (changed_row row target)) ≡ GREATEST_STAMP → FindsLast by own s (OfRow row) board
  drop-finds target is shown order last =
      let come = drop-made board.layout.harts by s guest row target is shown in
      finds board by own s (OfRow row) (reply.Drop (Ok no_changes)) (handing row None target) (changed_parts guest (changed_row row target)) come.0 come.1 refl order last

  -- So would one that would be refused.
  pub drop-refusal-finds :
      IsDrop s → shown_by s ≡ Some guest → AreInOrder board.layout (refused_parts guest) → greatest_at board own (refused_parts guest) ≡ GREATEST_STAMP
      → FindsLast by own s (OfRow row) board
  drop-refusal-finds is shown order last =
      let come = drop-refused board.layout.harts by s guest row is shown in
      finds board by own s (OfRow row) (reply.Drop (Err refusal.NotLive)) (handing row None None) (refused_parts guest) come.0 come.1 refl order last
