-- Ranges that windows show: where they are found, and which components take loads.
use Rattle.std.proofs.Common.{◌≡◌, ℕ, ◌+◌, Bool, true, false, nat_le, refl, sym, ap, subst, ◌∙◌, List, length, Option, Some, None}
use Rattle.std.specs.Prelude.{Err, if◌then◌else◌}
use Rattle.std.specs.Option.{option_map}
use Rattle.hv_answer.specs.declared.reply.Reply.{Reply}
use Rattle.hv_answer.specs.declared.reply.Reply.TheVariants as reply
use Rattle.hv_body.specs.Body.{seen}
use Rattle.hv_body.specs.Contents.{map_device}
use Rattle.hv_body.specs.Rules.{FitsArea, HasForm, IsBody, IsDevice}
use Rattle.hv_body.specs.declared.contents.Contents.{Contents}
use Rattle.hv_body.specs.declared.contents.Contents.TheVariants.{Writable, ReadOnly, Emulated, Shared}
use Rattle.hv_body.specs.declared.live.Live.{Live}
use Rattle.hv_emu.specs.Device.{DevState}
use Rattle.hv_handed.specs.Takes.{SpaceTakes}
use Rattle.hv_kinds.specs.declared.address.AddressType.TheVariants.{Memory}
use Rattle.hv_refusal.specs.declared.refusal.Refusal.TheVariants as refusal
use Rattle.hv_region.specs.declared.plan.Form.{Form}
use Rattle.hv_region.specs.declared.plan.Form.TheVariants as form
use Rattle.hv_region.specs.declared.plan.RegionPlan.{RegionPlan}
use Rattle.hv_region.specs.declared.window.Window.{Window}
use Rattle.hv_rules.specs.Body.{no_memory, range_in, range_of, shared_in}
use Rattle.hv_rules.specs.Carry.{Carry, nothing}
use Rattle.hv_rules.specs.Space.{HandsWindow, SpaceAgrees}
use Rattle.hv_rules.specs.Windows.{window_at}
use Rattle.hv_space.specs.Space.{SpaceState}
use Rattle.hv_step.specs.declared.step.Load.{Load}
use Rattle.hv_step.specs.declared.step.Step.TheVariants as step
use Rattle.hv_memory_steps.specs.Hands.{load_carry}
use Rattle.hv_memory_steps.specs.Ranges.{found_by, found_in, found_of}
use Rattle.hv_memory_steps.specs.declared.ranges.Found.{Found}
use Rattle.hv_memory_steps.specs.declared.ranges.Found.TheVariants.{Own, InArea, NoMemory}

-- The area that is found, and the offset there.
abbrev pub area_found : Found → Option (ℕ × ℕ)
area_found (Own start) = None
area_found (InArea number start) = Some (number, start)
area_found NoMemory = None

-- Where the bytes of contents are, from an offset on.
abbrev found_at : {D : Type 0} → Contents D → (offset : ℕ) → Found
found_at (Writable bytes) offset = Own offset
found_at (ReadOnly bytes) offset = Own offset
found_at (Emulated device) offset = NoMemory
found_at (Shared number start) offset = InArea number (start + offset)

device_found : (f : Form) (offset : ℕ) → IsDevice f → found_by f offset ≡ NoMemory
device_found form.Ram offset is = absurd is
device_found form.Rom offset is = absurd is
device_found (form.Device names) offset is = refl
device_found (form.Real number start) offset is = absurd is
device_found (form.Alias address) offset is = absurd is

device_fits : (f : Form) (size : ℕ) → IsDevice f → FitsArea size f
device_fits form.Ram size is = absurd is
device_fits form.Rom size is = absurd is
device_fits (form.Device names) size is = tt
device_fits (form.Real number start) size is = absurd is
device_fits (form.Alias address) size is = absurd is

contents_found : {D : Type 0} (plan : RegionPlan) (contents : Contents D) (offset : ℕ) → HasForm plan contents → found_by plan.form offset ≡ found_at contents offset
contents_found plan (Writable bytes) offset has = ap (λ (f : Form). found_by f offset) has.0
contents_found plan (ReadOnly bytes) offset has = ap (λ (f : Form). found_by f offset) has.0
contents_found plan (Emulated device) offset has = device_found plan.form offset has
contents_found plan (Shared number start) offset has = ap (λ (f : Form). found_by f offset) has.0

contents_fit : {D : Type 0} (plan : RegionPlan) (contents : Contents D) → HasForm plan contents → FitsArea plan.size plan.form
contents_fit plan (Writable bytes) has = subst (FitsArea plan.size) (sym has.0) tt
contents_fit plan (ReadOnly bytes) has = subst (FitsArea plan.size) (sym has.0) tt
contents_fit plan (Emulated device) has = device_fits plan.form plan.size has
contents_fit plan (Shared number start) has = subst (FitsArea plan.size) (sym has.0) has.1

abbrev FitsPlan : Option RegionPlan → Type 0
FitsPlan None = ⊥
FitsPlan (Some plan) = FitsArea plan.size plan.form

abbrev found_if : Option RegionPlan → (offset size : ℕ) → Found
found_if None offset size = NoMemory
found_if (Some plan) offset size = found_in plan offset size

-- a region that shows an area fits it
pub plan_fits : {D : Type 0} (body : Option (Live D)) (plan : RegionPlan) → IsBody body → Some plan ≡ option_map (λ (live : Live D). live.plan) body → FitsArea plan.size plan.form
plan_fits None plan is there = cc
plan_fits (Some live) plan is there =
    subst (λ (o : Option RegionPlan). FitsPlan o) (sym there) (contents_fit live.plan live.contents is.form)

-- where a range is found is where the plan says
pub found_here : {D : Type 0} (body : Option (Live D)) (plan : RegionPlan) (offset size : ℕ) → Some plan ≡ option_map (λ (live : Live D). live.plan) body
    → found_in plan offset size ≡ found_of body offset size
found_here None plan offset size there = cc
found_here (Some live) plan offset size there = ap (λ (o : Option RegionPlan). found_if o offset size) there

pub found_as : {D : Type 0} (body : Option (Live D)) (plan : RegionPlan) (offset size : ℕ) (found : Found) → Some plan ≡ option_map (λ (live : Live D). live.plan) body
    → found ≡ found_in plan offset size → found ≡ found_of body offset size
found_as body plan offset size found there is = is ∙ found_here body plan offset size there

pub found_nowhere : {D : Type 0} (body : Option (Live D)) (offset size : ℕ) → None ≡ option_map (λ (live : Live D). live.plan) body → NoMemory ≡ found_of body offset size
found_nowhere None offset size there = refl
found_nowhere (Some live) offset size there = cc

-- What is found within a region's end is what its contents are.
module _ {E : Type 0} (state : E → DevState) where
  area_in_contents : (contents : Contents E) (offset size : ℕ) → area_found (found_at contents offset) ≡ shared_in (range_in (map_device state contents) offset size)
  area_in_contents (Writable bytes) offset size = refl
  area_in_contents (ReadOnly bytes) offset size = refl
  area_in_contents (Emulated device) offset size = refl
  area_in_contents (Shared number start) offset size = refl

  area_within : (plan : RegionPlan) (contents : Contents E) (offset size : ℕ) (b : Bool) → HasForm plan contents
      → area_found (if b then found_by plan.form offset else NoMemory) ≡ shared_in (if b then range_in (map_device state contents) offset size else no_memory)
  area_within plan contents offset size true has = ap area_found (contents_found plan contents offset has) ∙ area_in_contents contents offset size
  area_within plan contents offset size false has = refl

  -- the area that is found is the one that the range shares
  pub area_is : (body : Option (Live E)) (offset size : ℕ) → IsBody body → area_found (found_of body offset size) ≡ shared_in (range_of (seen state body) offset size)
  area_is None offset size is = refl
  area_is (Some live) offset size is = area_within live.plan live.contents offset size (nat_le (offset + size) live.plan.size) is.form

  -- the area of what is found
  pub area_found_as : (body : Option (Live E)) (offset size : ℕ) (found : Found) → IsBody body → found ≡ found_of body offset size → area_found found ≡ shared_in (range_of (seen state body) offset size)
  area_found_as body offset size found is same = ap area_found same ∙ area_is body offset size is

-- Loads.

-- a space takes a load that no window holds
pub space_load_refused : (s : Load) (c : Carry) (bytes : List ℕ) (space : SpaceState) → c ≡ load_carry bytes None None
    → window_at space.windows Memory s.address (length bytes) ≡ None → SpaceTakes (step.Load s) (reply.Load (Err refusal.NoWindow)) c space space
space_load_refused s c bytes space handed is = record {
  agrees =
      subst (SpaceAgrees space (step.Load s) (reply.Load (Err refusal.NoWindow))) (sym handed)
      (subst (λ (found : Option Window). HandsWindow found (reply.Load (Err refusal.NoWindow)) (reply.Load (Err refusal.NoWindow)) (load_carry bytes None None)) (sym is) (refl, refl, refl));
  after = refl;
}

-- and one whose file isn't there
pub space_load_missing : (s : Load) (r : Reply) (c : Carry) (space : SpaceState) → c ≡ nothing → SpaceTakes (step.Load s) r c space space
space_load_missing s r c space handed = record {
  agrees = subst (SpaceAgrees space (step.Load s) r) (sym handed) (refl, refl);
  after = refl;
}
