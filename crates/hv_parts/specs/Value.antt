-- What a component of any kind has.
use Rattle.std.specs.Prelude.{ℕ, List}
use Rattle.hv_body.specs.Body.{seen}
use Rattle.hv_dir.specs.Directory.{DirState}
use Rattle.hv_dir.specs.Pool.{devices_of}
use Rattle.hv_emu.specs.Device.{DevState}
use Rattle.hv_files.specs.FileMap.{FileMap}
use Rattle.hv_queue.specs.declared.entry.QueueEntry.{QueueEntry}
use Rattle.hv_rules.specs.Body.{BodyValue}
use Rattle.hv_space.specs.Space.{SpaceState}
use Rattle.hv_vcpu.specs.Vcpu.{VcpuValue}
use Rattle.hv_parts.specs.declared.part.Part.{Part}
use Rattle.hv_parts.specs.declared.part.Part.TheVariants as part

-- The value of a component is of the kind that the component is.
pub data PartValue : Type 0 where
  Dir : DirState → PartValue
  Shelf : List DevState → PartValue
  Files : FileMap → PartValue
  Space : SpaceState → PartValue
  Queue : List QueueEntry → PartValue
  Vcpu : VcpuValue → PartValue
  Body : BodyValue → PartValue
  Area : List ℕ → PartValue

-- The value of a component in code, where an emulator stands for the state of its device.
abbrev pub valued : {E : Type 0} → (state : E → DevState) → Part E → PartValue
valued state (part.Dir directory) = Dir directory
valued state (part.Shelf shelf) = Shelf (devices_of state shelf)
valued state (part.Files files) = Files files
valued state (part.Space space) = Space space
valued state (part.Queue queue) = Queue queue
valued state (part.Vcpu vcpu) = Vcpu vcpu
valued state (part.Body body) = Body (seen state body)
valued state (part.Area bytes) = Area bytes
