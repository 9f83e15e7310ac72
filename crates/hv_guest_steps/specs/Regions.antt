-- Regions of a guest that are dropped: what holds of the windows, and what is handed over.
use Rattle.std.specs.Prelude.{ℕ, ◌+◌, ◌≤◌, All, List, Option, Some}
use Rattle.hv_answer.specs.declared.reply.Reply.{Reply}
use Rattle.hv_body.specs.Body.{device_of}
use Rattle.hv_emu.specs.Device.{DevState}
use Rattle.hv_handed.specs.Takes.{ShelfTakes, SpaceTakes, BodyTakes}
use Rattle.hv_kinds.specs.declared.address.AddressType.TheVariants.{Memory}
use Rattle.hv_region.specs.Addresses.{end_of}
use Rattle.hv_region.specs.declared.window.Window.{Window}
use Rattle.hv_space.specs.Space.{SpaceState}
use Rattle.hv_step.specs.declared.step.Drop.{Drop}
use Rattle.hv_step.specs.declared.step.Step.TheVariants as step
use Rattle.hv_rules.specs.Body.{BodyValue, parent_of, unless_alias}
use Rattle.hv_rules.specs.Carry.{Carry, nothing}

-- No window shows anything behind as many bytes of its target as memory has addresses.
abbrev pub ShowWithin : List Window → Type 0
ShowWithin windows = All (λ window. window.offset + window.size ≤ end_of Memory) windows

-- What is handed over of a region that isn't live, and is dropped all the same.
abbrev pub not_live_carry : (row : ℕ) → Carry
not_live_carry row = record nothing { row = Some row }

-- What is handed over of a region that is dropped, whose body, or whose target's, this is.
abbrev pub drop_carry : (row : ℕ) → (target : Option (ℕ × ℕ)) → BodyValue → Carry
drop_carry row target body =
    record nothing {
      row = Some row;
      target = target;
      device = unless_alias target (device_of body);
      parent = unless_alias target (parent_of body);
    }

-- A removal is taken by the pool, by the guest's space and by the body.
pub record IsDropped
    (r : Reply) (c : Carry) (devices devices_left : List DevState) (old new : SpaceState) (before after : BodyValue) : Type 0 where
  pub shelf : (s : Drop) → ShelfTakes (step.Drop s) r c devices devices_left
  pub space : (s : Drop) → SpaceTakes (step.Drop s) r c old new
  pub body : (row : ℕ) → (s : Drop) → BodyTakes row (step.Drop s) r c before after
