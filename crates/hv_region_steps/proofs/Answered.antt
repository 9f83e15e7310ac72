-- What is answered where a region is added or dropped, and where it is not.
use Rattle.std.proofs.Common.{◌≡◌, ℕ, List, [], Option, None, Some, sym, subst, ap, ◌∙◌}
use Rattle.std.specs.Prelude.{IsSomeAnd, Result, Ok, Err, find}
use Rattle.hv_answer.specs.declared.reply.Reply.{Reply}
use Rattle.hv_answer.specs.declared.reply.Reply.TheVariants as reply
use Rattle.hv_body.specs.Body.{device_of}
use Rattle.hv_emu.specs.Device.{DevState}
use Rattle.hv_event.specs.declared.event.CellId.{CellId}
use Rattle.hv_guest_steps.specs.Additions.{MayNotAdd, not_added_carry, refusal_of}
use Rattle.hv_guest_steps.specs.Regions.{not_live_carry}
use Rattle.hv_guest_steps.specs.declared.row.NotAdded.{NotAdded}
use Rattle.hv_handed.specs.Takes.{ShelfTakes, SpaceTakes, BodyTakes}
use Rattle.hv_handed.specs.Told.{IsTold}
use Rattle.hv_handed.specs.declared.told.Told.{Told}
use Rattle.hv_refusal.specs.declared.refusal.Refusal.{Refusal}
use Rattle.hv_region.specs.declared.window.Window.{Window}
use Rattle.hv_rules.specs.Body.{BodyValue, built, changes, dropped, parent_of, unless_alias}
use Rattle.hv_rules.specs.Carry.{Carry, nothing}
use Rattle.hv_rules.specs.Footprint.{if_made}
use Rattle.hv_rules.specs.Shelf.{Gives, ShelfAgrees, device_for, unless_stopped}
use Rattle.hv_rules.specs.Space.{AgreesToDrop, SpaceAgrees, is_of}
use Rattle.hv_rules.specs.Windows.{Region, region_of}
use Rattle.hv_space.specs.Space.{SpaceState}
use Rattle.hv_step.specs.declared.step.Add.{Add}
use Rattle.hv_step.specs.declared.step.Drop.{Drop}
use Rattle.hv_step.specs.declared.step.Step.TheVariants as step

some-and : {A : Type 0} (o : Option A) (P : A → Type 0) → IsSomeAnd o P → (x : A) × P x
some-and None P is = absurd is
some-and (Some x) P is = (x, is)

-- An addition that a body takes is made.
pub add-made :
    (row : ℕ) (s : Add) (r : Reply) (c : Carry) (before after : BodyValue) (bodies : List CellId) → BodyTakes row (step.Add s) r c before after
    → if_made r bodies ≡ bodies
add-made row s r c before after bodies takes =
    let there =
    some-and (region_of s.generation c.row c.plan)
    (λ (region : Region). (r ≡ reply.Add (Ok (changes before (built region c.device c.target before)))) × (c.parent ≡ region.plan.parent))
    takes.agrees
    in
    ap (λ (q : Reply). if_made q bodies) there.1.0

-- So is a removal.
pub drop-made :
    (row : ℕ) (s : Drop) (r : Reply) (c : Carry) (before after : BodyValue) (bodies : List CellId) → BodyTakes row (step.Drop s) r c before after
    → if_made r bodies ≡ bodies
drop-made row s r c before after bodies takes =
    let there =
    some-and c.row
    (λ (gone : ℕ).
    (r ≡ reply.Drop (Ok (changes before (dropped gone c.target before))))
    × (c.device ≡ unless_alias c.target (device_of before))
    × (c.parent ≡ unless_alias c.target (parent_of before)))
    takes.agrees
    in
    ap (λ (q : Reply). if_made q bodies) there.1.0

-- An addition that may not be is not.
pub add-refused :
    (s : Add) (r : Reply) (c : Carry) (region : Region) (why : NotAdded) (windows : List Window) (devices left : List DevState) (bodies : List CellId)
    → c ≡ not_added_carry region why → MayNotAdd windows devices region why → ShelfTakes (step.Add s) r c devices left → if_made r bodies ≡ []
add-refused s r c region why windows devices left bodies same may takes =
    let carry : Carry = not_added_carry region why in
    let gives : Gives (unless_stopped carry.stopped (device_for devices region.plan.form)) r carry =
    subst (λ (k : Carry). ShelfAgrees devices (step.Add s) r k) same takes.agrees
    in
    let refuses : Gives (Err (refusal_of why)) r carry =
    subst (λ (g : Result (Option DevState) Refusal). Gives g r carry) may.refused gives
    in
    ap (λ (q : Reply). if_made q bodies) refuses.0

-- A removal of a region that isn't live is refused.
pub drop-refused :
    (s : Drop) (r : Reply) (c : Carry) (row : ℕ) (old new : SpaceState) (bodies : List CellId) → c ≡ not_live_carry row → find (is_of row) old.windows ≡ None
    → SpaceTakes (step.Drop s) r c old new → if_made r bodies ≡ []
drop-refused s r c row old new bodies same gone takes =
    let agrees : AgreesToDrop (find (is_of row) old.windows) r None = subst (λ (k : Carry). SpaceAgrees old (step.Drop s) r k) same takes.agrees in
    let refuses : AgreesToDrop None r None = subst (λ (w : Option Window). AgreesToDrop w r None) gone agrees in
    ap (λ (q : Reply). if_made q bodies) refuses.0

-- The actor learns where a region's interrupts go, and nothing else.
pub told-where :
    (c : Carry) (told : Told) (there : Option (ℕ × ℕ)) → IsTold nothing told → (c.lines ≡ None) × (c.guest ≡ None) × (c.pending ≡ None) × (c.clock ≡ None)
    → there ≡ c.parent → IsTold c (record told { parent = there })
told-where c told there is silent same = record {
  lines = is.lines ∙ sym silent.0;
  guest = is.guest ∙ sym silent.1;
  pending = is.pending ∙ sym silent.2;
  clock = is.clock ∙ sym silent.3;
  parent = same;
}
