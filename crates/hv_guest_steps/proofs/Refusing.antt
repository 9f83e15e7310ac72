-- Components that are asked for an addition that is refused.
use Rattle.std.proofs.Common.{◌≡◌, ◌∙◌, ap, sym, subst, refl, List, Option, Some, None}
use Rattle.std.specs.Prelude.{Result, Err, IsSomeAnd}
use Rattle.hv_answer.specs.declared.reply.Reply.TheVariants as reply
use Rattle.hv_emu.specs.Device.{DevState}
use Rattle.hv_handed.specs.Takes.{ShelfTakes, SpaceTakes}
use Rattle.hv_kinds.specs.declared.generation.Generation.{Generation}
use Rattle.hv_refusal.specs.declared.refusal.Refusal.{Refusal}
use Rattle.hv_region.specs.declared.plan.Form.{Form}
use Rattle.hv_region.specs.declared.plan.Form.TheVariants.{Ram, Rom, Device, Real, Alias}
use Rattle.hv_region.specs.declared.plan.RegionPlan.{RegionPlan}
use Rattle.hv_region.specs.declared.window.Window.{Window}
use Rattle.hv_rules.specs.Carry.{Carry}
use Rattle.hv_rules.specs.Shelf.{Gives, device_for, unless_stopped}
use Rattle.hv_rules.specs.Space.{AgreesToAdd, target_of, unless_refused}
use Rattle.hv_rules.specs.Windows.{region_of}
use Rattle.hv_space.specs.Space.{SpaceState}
use Rattle.hv_step.specs.declared.step.Add.{Add}
use Rattle.hv_step.specs.declared.step.Step.TheVariants as step
use Rattle.hv_guest_steps.specs.Additions.{MayNotAdd, not_added_carry, refusal_of, region_at, stopped_by}
use Rattle.hv_guest_steps.specs.declared.row.GuestRow.{GuestRow}
use Rattle.hv_guest_steps.specs.declared.row.NotAdded.{NotAdded}
use Rattle.hv_guest_steps.specs.declared.row.NotAdded.TheVariants.{Live, Overlap, AliasTarget, NoEmulator}

-- the pool
pub shelf_refuses :
    (at : GuestRow) (plan : RegionPlan) (why : NotAdded) (refusal : Refusal) (c : Carry) (s : Add) (windows : List Window) (devices : List DevState)
    → c ≡ not_added_carry (region_at at plan) why → refusal ≡ refusal_of why → MayNotAdd windows devices (region_at at plan) why
    → ShelfTakes (step.Add s) (reply.Add (Err refusal)) c devices devices
shelf_refuses at plan why refusal c s windows devices handed is may =
    let carry : Carry = not_added_carry (region_at at plan) why in
    subst (λ (k : Carry). ShelfTakes (step.Add s) (reply.Add (Err refusal)) k devices devices) (sym handed)
    (subst (λ (w : Refusal). ShelfTakes (step.Add s) (reply.Add (Err w)) carry devices devices) (sym is)
    (record {
      agrees =
          subst (λ (r : Result (Option DevState) Refusal). Gives r (reply.Add (Err (refusal_of why))) carry) (sym may.refused)
          (refl, refl, refl);
      after = refl;
    }))

-- a region for which no device is there leads nowhere

no_target : (windows : List Window) (devices : List DevState) (plan : RegionPlan) (form : Form) (why : Refusal)
    → device_for devices form ≡ Err why → target_of windows plan form ≡ None
no_target windows devices plan Ram why is = absurd (cc is)
no_target windows devices plan Rom why is = absurd (cc is)
no_target windows devices plan (Device names) why is = refl
no_target windows devices plan (Real area offset) why is = absurd (cc is)
no_target windows devices plan (Alias address) why is = absurd (cc is)

leads_nowhere : (windows : List Window) (devices : List DevState) (plan : RegionPlan) (form : Form) (why : NotAdded)
    → unless_stopped (stopped_by why) (device_for devices form) ≡ Err (refusal_of why)
    → None ≡ unless_refused (stopped_by why) (target_of windows plan form)
leads_nowhere windows devices plan form Live is = refl
leads_nowhere windows devices plan form (Overlap row) is = refl
leads_nowhere windows devices plan form AliasTarget is = refl
leads_nowhere windows devices plan form NoEmulator is = sym (no_target windows devices plan form (refusal_of NoEmulator) is)

-- the space
pub space_refuses :
    (at : GuestRow) (plan : RegionPlan) (why : NotAdded) (refusal : Refusal) (c : Carry) (s : Add) (space : SpaceState) (devices : List DevState)
    → c ≡ not_added_carry (region_at at plan) why → s.generation ≡ Some at.guest → MayNotAdd space.windows devices (region_at at plan) why
    → SpaceTakes (step.Add s) (reply.Add (Err refusal)) c space space
space_refuses at plan why refusal c s space devices handed of_guest may =
    let carry : Carry = not_added_carry (region_at at plan) why in
    subst (λ (k : Carry). SpaceTakes (step.Add s) (reply.Add (Err refusal)) k space space) (sym handed)
    (record {
      agrees =
          subst
          (λ (g : Option Generation). IsSomeAnd (region_of g (Some at.row) (Some (plan, at.vcpus))) (λ region. AgreesToAdd space.windows region carry))
          (sym of_guest) (
            sym may.stopped,
            leads_nowhere space.windows devices plan plan.form why may.refused
                ∙ sym (ap (λ (w : Option Refusal). unless_refused w (target_of space.windows plan plan.form)) may.stopped),
          );
      after = refl;
    })
