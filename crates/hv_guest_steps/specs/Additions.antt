-- Regions that are added to a guest: when they may be, and what is handed over.
use Rattle.std.specs.Prelude.{◌≡◌, ◌<◌, ◌≤◌, ℕ, List, Option, Some, None, Err}
use Rattle.std.specs.Option.{option_flatten}
use Rattle.std.specs.Result.{IsOk, result_ok}
use Rattle.hv_answer.specs.declared.reply.Reply.{Reply}
use Rattle.hv_body.specs.Rules.{FitsArea}
use Rattle.hv_emu.specs.Device.{DevState}
use Rattle.hv_handed.specs.Takes.{ShelfTakes, SpaceTakes, BodyTakes}
use Rattle.hv_kinds.specs.declared.generation.Generation.{Generation}
use Rattle.hv_refusal.specs.declared.refusal.Refusal.{Refusal}
use Rattle.hv_refusal.specs.declared.refusal.Refusal.TheVariants as refusal
use Rattle.hv_region.specs.Plans.{IsRegionPlan}
use Rattle.hv_region.specs.declared.plan.Form.{Form}
use Rattle.hv_region.specs.declared.plan.Form.TheVariants.{Ram, Rom, Device, Real, Alias}
use Rattle.hv_region.specs.declared.plan.RegionPlan.{RegionPlan}
use Rattle.hv_region.specs.declared.window.Window.{Window}
use Rattle.hv_rules.specs.Body.{BodyValue}
use Rattle.hv_rules.specs.Carry.{Carry, nothing}
use Rattle.hv_rules.specs.Shelf.{device_for, unless_stopped}
use Rattle.hv_rules.specs.Space.{refusal_in, target_of}
use Rattle.hv_rules.specs.Windows.{Region}
use Rattle.hv_space.specs.Space.{SpaceState}
use Rattle.hv_step.specs.declared.step.Add.{Add}
use Rattle.hv_step.specs.declared.step.Step.TheVariants as step
use Rattle.hv_text.specs.declared.limits.TheConstants.{GUEST_REGIONS, GUEST_VCPUS}
use Rattle.hv_guest_steps.specs.declared.row.GuestRow.{GuestRow}
use Rattle.hv_guest_steps.specs.declared.row.NotAdded.{NotAdded}
use Rattle.hv_guest_steps.specs.declared.row.NotAdded.TheVariants.{Live, Overlap, AliasTarget, NoEmulator}

-- The region that a plan puts into a guest's row.
abbrev pub region_at : GuestRow → RegionPlan → Region
region_at at plan = record { birth = at.guest.birth; row = at.row; plan = plan; vcpus = at.vcpus }

-- A region that can be: a guest has this row, and VCPUs, and the plan keeps the rules.
pub record CanBe (region : Region) : Type 0 where
  pub row : region.row < GUEST_REGIONS
  pub some_vcpus : 1 ≤ region.vcpus
  pub few_vcpus : region.vcpus ≤ GUEST_VCPUS
  pub by_rules : IsRegionPlan region.plan
  pub area : FitsArea region.plan.size region.plan.form

-- Why a region isn't added, as a reply shows it.
abbrev pub refusal_of : NotAdded → Refusal
refusal_of Live = refusal.Live
refusal_of (Overlap row) = refusal.Overlap row
refusal_of AliasTarget = refusal.AliasTarget
refusal_of NoEmulator = refusal.NoEmulator

-- Why the space stops an addition; want of a device is no reason of the space.
abbrev pub stopped_by : NotAdded → Option Refusal
stopped_by Live = Some refusal.Live
stopped_by (Overlap row) = Some (refusal.Overlap row)
stopped_by AliasTarget = Some refusal.AliasTarget
stopped_by NoEmulator = None

-- A region may be added, and leads to this target if it is an alias: the space doesn't refuse it, and there is a device
-- where its form asks for one.
pub record MayAdd (windows : List Window) (devices : List DevState) (region : Region) (target : Option (ℕ × ℕ)) : Type 0 where
  pub allowed : refusal_in windows region ≡ None
  pub leads_to : target ≡ target_of windows region.plan region.plan.form
  pub device : IsOk (device_for devices region.plan.form)

-- A region may not be added, for this reason.
pub record MayNotAdd (windows : List Window) (devices : List DevState) (region : Region) (why : NotAdded) : Type 0 where
  pub stopped : refusal_in windows region ≡ stopped_by why
  pub refused : unless_stopped (stopped_by why) (device_for devices region.plan.form) ≡ Err (refusal_of why)

-- A region of a form leads to a target exactly if it is an alias.
abbrev pub LeadsTo : (target : Option (ℕ × ℕ)) → Form → Type 0
LeadsTo (Some target) (Alias address) = Unit {0}
LeadsTo None Ram = Unit {0}
LeadsTo None Rom = Unit {0}
LeadsTo None (Device names) = Unit {0}
LeadsTo None (Real area offset) = Unit {0}
LeadsTo _ _ = ⊥

-- The device that a region of a form gets, if it is to have one.
abbrev pub device_got : List DevState → Form → Option DevState
device_got devices form = option_flatten (result_ok (device_for devices form))

-- What is handed over of a region that is added.
abbrev pub add_carry : Region → (target : Option (ℕ × ℕ)) → (device : Option DevState) → Carry
add_carry region target device =
    record nothing {
      row = Some region.row;
      plan = Some (region.plan, region.vcpus);
      target = target;
      device = device;
      parent = region.plan.parent;
    }

-- What is handed over of a region that isn't.
abbrev pub not_added_carry : Region → NotAdded → Carry
not_added_carry region why =
    record nothing { row = Some region.row; plan = Some (region.plan, region.vcpus); stopped = stopped_by why }

-- An addition to a guest is taken by the pool, by the guest's space and by the body.
pub record IsAdded
    (guest : Generation) (r : Reply) (c : Carry) (devices devices_left : List DevState) (old new : SpaceState) (before after : BodyValue) : Type 0 where
  pub shelf : (s : Add) → ShelfTakes (step.Add s) r c devices devices_left
  pub space : (s : Add) → s.generation ≡ Some guest → SpaceTakes (step.Add s) r c old new
  pub body : (row : ℕ) → (s : Add) → s.generation ≡ Some guest → BodyTakes row (step.Add s) r c before after
