-- What a step hands from one cell to another without showing it in its event.
use Rattle.std.specs.Prelude.{ℕ, Bool, Option, None, List, []}
use Rattle.hv_emu.specs.Device.{DevState}
use Rattle.hv_queue.specs.declared.entry.QueueEntry.{QueueEntry}
use Rattle.hv_refusal.specs.declared.refusal.Refusal.{Refusal}
use Rattle.hv_region.specs.declared.plan.RegionPlan.{RegionPlan}
use Rattle.hv_region.specs.declared.plan.VcpuPlan.{VcpuPlan}
use Rattle.hv_region.specs.declared.window.Window.{Window}

-- A load or store that an instruction leaves pending: where it goes, how many bytes it has, and what it stores or where
-- it loads to.
pub data Pending : Type 0 where
  load : (address size : ℕ) → (is_signed : Bool) → (register : ℕ) → Pending
  store : (address size value : ℕ) → Pending

pub record Carry : Type 0 where
  -- the number of a script's lines, from the files to the terminal that runs it
  pub lines : Option ℕ
  -- the bytes of a file, from the files to the body that is loaded
  pub bytes : Option (List ℕ)
  -- slot and birth of a guest, from the directory to the terminal that turns its stage
  pub guest : Option (ℕ × ℕ)
  -- index and plan of a VCPU that is added, from the terminal to the VCPU
  pub vcpu : Option (ℕ × VcpuPlan)
  -- the priority of a VCPU that becomes ready, from it to its queue
  pub priority : Option ℕ
  -- the lengths of all queues, from each of them to all, and the entry that is moved, from the queue that gives it
  pub lengths : List ℕ
  pub moved : Option QueueEntry
  -- the address of the instruction that is fetched, from the VCPU to the body, and the access that it leaves pending,
  -- from the VCPU to the hart
  pub pc : Option ℕ
  pub pending : Option Pending
  -- why a cell refuses a step before another is asked: a name, from the terminal to the directory, and an addition,
  -- from the space to the shelf
  pub stopped : Option Refusal
  -- the row of a region, if the guest's plan has it, and its plan with the number of the guest's VCPUs, from the
  -- terminal to the directory and the other components
  pub row : Option ℕ
  pub plan : Option (RegionPlan × ℕ)
  -- the device that moves, from the shelf to the body or from the body to the shelf
  pub device : Option DevState
  -- the window that holds an access, and the row and the offset of an alias's target, from the space to the bodies
  pub window : Option Window
  pub target : Option (ℕ × ℕ)
  -- row and birth of the guest's clock, from the space to its body
  pub clock : Option (ℕ × ℕ)
  -- the area of a real region and the offset in it, from the body to the area
  pub area : Option (ℕ × ℕ)
  -- the row of a region's interrupt parent and the source there, from the body to the actor
  pub parent : Option (ℕ × ℕ)

-- Nothing is handed over.
abbrev pub nothing : Carry
nothing = record {
  lines = None;
  bytes = None;
  guest = None;
  vcpu = None;
  priority = None;
  lengths = [];
  moved = None;
  pc = None;
  pending = None;
  stopped = None;
  row = None;
  plan = None;
  device = None;
  window = None;
  target = None;
  clock = None;
  area = None;
  parent = None;
}
