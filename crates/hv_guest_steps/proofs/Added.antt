-- Components that are left as an addition's rules say take it.
use Rattle.std.proofs.Common.{◌≡◌, ℕ, ◌∙◌, ap, sym, subst, refl, List, Option, Some, None}
use Rattle.std.specs.Prelude.{Result, Ok, Err, IsSomeAnd}
use Rattle.std.specs.Option.{option_flatten, option_map_or}
use Rattle.std.specs.Result.{IsOk, result_ok}
use Rattle.hv_answer.specs.declared.reply.Reply.TheVariants as reply
use Rattle.hv_emu.specs.Device.{DevState}
use Rattle.hv_kinds.specs.declared.changes.SignalChanges.{SignalChanges}
use Rattle.hv_kinds.specs.declared.generation.Generation.{Generation}
use Rattle.hv_refusal.specs.declared.refusal.Refusal.{Refusal}
use Rattle.hv_region.specs.declared.plan.RegionPlan.{RegionPlan}
use Rattle.hv_region.specs.declared.window.Window.{Window}
use Rattle.hv_rules.specs.Body.{BodyValue, built, changes}
use Rattle.hv_rules.specs.Carry.{Carry}
use Rattle.hv_rules.specs.Shelf.{Gives, device_for, without_device}
use Rattle.hv_rules.specs.Space.{AgreesToAdd, refusal_in, target_of, unless_refused, with_region}
use Rattle.hv_rules.specs.Windows.{Region, region_of}
use Rattle.hv_space.specs.Space.{SpaceState}
use Rattle.hv_guest_steps.specs.Additions.{IsAdded, MayAdd, add_carry, device_got, region_at}
use Rattle.hv_guest_steps.specs.declared.row.GuestRow.{GuestRow}

gives : (changed : SignalChanges) (d : Result (Option DevState) Refusal) (c : Carry) → IsOk d → c.device ≡ option_flatten (result_ok d)
    → Gives d (reply.Add (Ok changed)) c
gives changed (Ok device) c ok is = (refl, is)
gives changed (Err why) c ok is = absurd (cc ok)

agrees : (windows : List Window) (region : Region) (target : Option (ℕ × ℕ)) (device : Option DevState) → refusal_in windows region ≡ None
    → target ≡ target_of windows region.plan region.plan.form → AgreesToAdd windows region (add_carry region target device)
agrees windows region target device allowed leads_to = (
  sym allowed,
  leads_to ∙ sym (ap (λ (why : Option Refusal). unless_refused why (target_of windows region.plan region.plan.form)) allowed),
)

-- an addition
pub is_added :
    (at : GuestRow) (plan : RegionPlan) (target : Option (ℕ × ℕ)) (changed : SignalChanges) (c : Carry) (shelf shelf' : List DevState)
    (space space' : SpaceState) (body body' : BodyValue)
    → MayAdd space.windows shelf (region_at at plan) target → c ≡ add_carry (region_at at plan) target (device_got shelf plan.form)
    → changed ≡ changes body body' → shelf' ≡ without_device shelf plan.form → space' ≡ with_region space target (region_at at plan)
    → body' ≡ built (region_at at plan) (device_got shelf plan.form) target body
    → IsAdded at.guest (reply.Add (Ok changed)) c shelf shelf' space space' body body'
is_added at plan target changed c shelf shelf' space space' body body' may handed changes_are shelf_is space_is body_is =
    let region : Region = region_at at plan in
    let device : Option DevState = device_got shelf plan.form in
    let carry : Carry = add_carry region target device in
    subst (λ (k : Carry). IsAdded at.guest (reply.Add (Ok changed)) k shelf shelf' space space' body body') (sym handed)
    (record {
      shelf = λ s. record { agrees = gives changed (device_for shelf plan.form) carry may.device refl; after = shelf_is };
      space =
          λ s of_guest.
          record {
            agrees =
                subst (λ (g : Option Generation). IsSomeAnd (region_of g (Some at.row) (Some (plan, at.vcpus))) (λ region. AgreesToAdd space.windows region carry))
                (sym of_guest)
                (agrees space.windows region target device may.allowed may.leads_to);
            after =
                subst (λ (g : Option Generation). space' ≡ option_map_or (with_region space target) (region_of g (Some at.row) (Some (plan, at.vcpus))) space)
                (sym of_guest)
                space_is;
          };
      body =
          λ cell s of_guest.
          record {
            agrees =
                subst
                (λ (g : Option Generation).
                IsSomeAnd (region_of g (Some at.row) (Some (plan, at.vcpus))) (λ region.
                (reply.Add (Ok changed) ≡ reply.Add (Ok (changes body (built region device target body)))) × (carry.parent ≡ region.plan.parent)))
                (sym of_guest)
                (ap (λ (k : SignalChanges). reply.Add (Ok k)) (changes_are ∙ ap (changes body) body_is), refl);
            after =
                subst (λ (g : Option Generation). body' ≡ option_map_or (λ region. built region device target body) (region_of g (Some at.row) (Some (plan, at.vcpus))) body)
                (sym of_guest)
                body_is;
          };
    })
