-- The component of the shelf of devices that no guest has: to which events it agrees, and what an event leaves in it.
use Rattle.std.specs.Prelude.{◌≡◌, Bool, true, false, List, Result, Ok, Err}
use Rattle.std.specs.Prelude.{Option, None, Some, ok_or, option_map, IsSomeAnd}
use Rattle.std.specs.Option.{option_map_or}
use Rattle.hv_answer.specs.declared.reply.Reply.{Reply}
use Rattle.hv_answer.specs.declared.reply.Reply.TheVariants as reply
use Rattle.hv_dir.specs.Pool.{taken, given_back}
use Rattle.hv_emu.specs.Device.{DevState}
use Rattle.hv_region.specs.declared.plan.Form.{Form}
use Rattle.hv_region.specs.declared.plan.Form.TheVariants.{Device}
use Rattle.hv_refusal.specs.declared.refusal.Refusal.{Refusal}
use Rattle.hv_refusal.specs.declared.refusal.Refusal.TheVariants.{NoEmulator}
use Rattle.hv_step.specs.declared.step.Step.{Step}
use Rattle.hv_step.specs.declared.step.Step.TheVariants as step
use Rattle.hv_rules.specs.Carry.{Carry}

-- The device for a region of a form, if it is to have one; a device that no emulator would do for is refused.
abbrev pub device_for : List DevState → Form → Result (Option DevState) Refusal
device_for devices (Device names) = ok_or (option_map (λ split. Some split.0) (taken devices names)) NoEmulator
device_for devices form = Ok None

-- The devices that are left once a region of a form has its own.
abbrev pub without_device : List DevState → Form → List DevState
without_device devices (Device names) = option_map_or (λ split. split.1) (taken devices names) devices
without_device devices form = devices

-- What is given, unless a step was stopped before.
abbrev pub unless_stopped : {A : Type 0} → Option Refusal → Result A Refusal → Result A Refusal
unless_stopped None given = given
unless_stopped (Some why) given = Err why

-- A reply says that a region is added; what changed the body decides.
abbrev pub is_added : Reply → Bool
is_added (reply.Add (Ok changes)) = true
is_added r = false

-- A region that is added gets what the shelf gives; else the reply says why, and its body isn't asked.
abbrev pub Gives : Result (Option DevState) Refusal → Reply → Carry → Type 0
Gives (Ok given) r c = (is_added r ≡ true) × (c.device ≡ given)
Gives (Err why) r c = (r ≡ reply.Add (Err why)) × (c.device ≡ None) × (c.parent ≡ None)

-- Of a region that isn't dropped the body isn't asked; else it says which device comes back.
abbrev pub AgreesToDrop : Reply → Carry → Type 0
AgreesToDrop (reply.Drop (Err why)) c = (c.device ≡ None) × (c.parent ≡ None)
AgreesToDrop r c = Unit {0}

-- The shelf agrees to an addition that the space doesn't refuse, and for which it has a device where the plan asks for
-- one; what a removal brings back the body decides.
abbrev pub ShelfAgrees : List DevState → Step → Reply → Carry → Type 0
ShelfAgrees devices (step.Add s) r c =
    IsSomeAnd c.plan (λ plan. Gives (unless_stopped c.stopped (device_for devices plan.0.form)) r c)
ShelfAgrees devices (step.Drop s) r c = AgreesToDrop r c
ShelfAgrees devices _ r c = ⊥

-- A device that a region gets leaves the shelf, and one that comes back is reset and goes last.
abbrev pub shelf_after : List DevState → Step → Reply → Carry → List DevState
shelf_after devices (step.Add s) (reply.Add (Ok changes)) c =
    option_map_or (λ plan. without_device devices plan.0.form) c.plan devices
shelf_after devices (step.Drop s) (reply.Drop (Ok changes)) c = option_map_or (given_back devices) c.device devices
shelf_after devices _ r c = devices
