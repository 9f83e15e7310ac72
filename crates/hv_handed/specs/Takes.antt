-- When a component takes a step: its rule agrees to it, and it is left as the rule says.
use Rattle.std.specs.Prelude.{◌≡◌, ℕ, List}
use Rattle.hv_answer.specs.declared.reply.Reply.{Reply}
use Rattle.hv_dir.specs.Directory.{DirState}
use Rattle.hv_emu.specs.Device.{DevState}
use Rattle.hv_event.specs.declared.event.ActorId.{ActorId}
use Rattle.hv_queue.specs.declared.entry.QueueEntry.{QueueEntry}
use Rattle.hv_space.specs.Space.{SpaceState}
use Rattle.hv_step.specs.declared.step.Step.{Step}
use Rattle.hv_vcpu.specs.Vcpu.{VcpuValue}
use Rattle.hv_rules.specs.Area.{AreaAgrees, area_after}
use Rattle.hv_rules.specs.Body.{BodyValue, BodyAgrees, body_after}
use Rattle.hv_rules.specs.Carry.{Carry}
use Rattle.hv_rules.specs.Dir.{DirAgrees, dir_after}
use Rattle.hv_rules.specs.Queue.{QueueAgrees, queue_after}
use Rattle.hv_rules.specs.Shelf.{ShelfAgrees, shelf_after}
use Rattle.hv_rules.specs.Space.{SpaceAgrees, space_after}
use Rattle.hv_rules.specs.Vcpu.{VcpuAgrees, vcpu_after}

-- The directory takes a step.
pub record DirTakes (s : Step) (r : Reply) (c : Carry) (old new : DirState) : Type 0 where
  pub agrees : DirAgrees old s r c
  pub after : new ≡ dir_after old s r c

-- The pool of devices takes a step.
pub record ShelfTakes (s : Step) (r : Reply) (c : Carry) (old new : List DevState) : Type 0 where
  pub agrees : ShelfAgrees old s r c
  pub after : new ≡ shelf_after old s r c

-- A guest's address space takes a step.
pub record SpaceTakes (s : Step) (r : Reply) (c : Carry) (old new : SpaceState) : Type 0 where
  pub agrees : SpaceAgrees old s r c
  pub after : new ≡ space_after old s r c

-- A hart's queue takes a step.
pub record QueueTakes (hart : ℕ) (s : Step) (r : Reply) (c : Carry) (old new : List QueueEntry) : Type 0 where
  pub agrees : QueueAgrees hart old s r c
  pub after : new ≡ queue_after hart old s r c

-- A VCPU takes a step of an actor.
pub record VcpuTakes (by : ActorId) (s : Step) (r : Reply) (c : Carry) (old new : VcpuValue) : Type 0 where
  pub agrees : VcpuAgrees by old s r c
  pub after : new ≡ vcpu_after by old s r c

-- The contents of a region in a row take a step.
pub record BodyTakes (row : ℕ) (s : Step) (r : Reply) (c : Carry) (old new : BodyValue) : Type 0 where
  pub agrees : BodyAgrees row old s r c
  pub after : new ≡ body_after row old s r c

-- An area takes a step.
pub record AreaTakes (s : Step) (r : Reply) (c : Carry) (old new : List ℕ) : Type 0 where
  pub agrees : AreaAgrees old s r c
  pub after : new ≡ area_after old s r c
