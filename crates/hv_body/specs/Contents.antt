-- What a region is made of, and what an access to it answers and leaves.
use Rattle.std.specs.Prelude.{ℕ, ◌+◌, if◌then◌else◌, List, replicate, Option, Some, None, is_some, slice_get}
use Rattle.hv_emu.specs.Access.{load, store}
use Rattle.hv_emu.specs.Device.{DevState, device_access}
use Rattle.hv_region.specs.declared.plan.Form.{Form}
use Rattle.hv_region.specs.declared.plan.Form.TheVariants.{Ram, Rom, Device, Real}
use Rattle.hv_body.specs.Memory.{number_at, with_bytes, with_number}
use Rattle.hv_body.specs.declared.contents.Contents.{Contents}
use Rattle.hv_body.specs.declared.contents.Contents.TheVariants.{Writable, ReadOnly, Emulated, Shared}
use Rattle.hv_body.specs.declared.place.Answer.{Answer}
use Rattle.hv_body.specs.declared.place.Answer.TheVariants.{Answered, Denied, NoExec, InArea}

-- The contents with another device in place of each, as its state in place of an emulator.
abbrev pub map_device : {D E : Type 0} → (E → D) → Contents E → Contents D
map_device f (Writable bytes) = Writable bytes
map_device f (ReadOnly bytes) = ReadOnly bytes
map_device f (Emulated device) = Emulated (f device)
map_device f (Shared area offset) = Shared area offset

-- The contents of a new region: memory is zero, and a device is handed in. An alias has none.
abbrev pub new_contents : {D : Type 0} → Form → (size : ℕ) → Option D → Option (Contents D)
new_contents Ram size None = Some (Writable (replicate size 0))
new_contents Rom size None = Some (ReadOnly (replicate size 0))
new_contents (Device names) size (Some device) = Some (Emulated device)
new_contents (Real area offset) size None = Some (Shared area offset)
new_contents _ size _ = None

-- A fetch: no device answers one, and of a region that is shared the area is asked, at the region's start there plus the offset.
abbrev pub fetched : {D : Type 0} → Contents D → (offset size : ℕ) → Answer
fetched (Writable bytes) offset size = Answered (number_at bytes offset size)
fetched (ReadOnly bytes) offset size = Answered (number_at bytes offset size)
fetched (Emulated device) offset size = NoExec
fetched (Shared area start) offset size = InArea area (start + offset)

-- What a device answers, or that it denies the access.
abbrev pub answer_of : Option ℕ → Answer
answer_of None = Denied
answer_of (Some value) = Answered value

-- A load is answered like a fetch, but devices answer it.
abbrev pub loaded : Contents DevState → (offset size : ℕ) → Answer
loaded (Emulated device) offset size = answer_of (device_access device (load offset size)).answer
loaded contents offset size = fetched contents offset size

-- A load changes devices alone.
abbrev pub after_load : Contents DevState → (offset size : ℕ) → Contents DevState
after_load (Emulated device) offset size = Emulated (device_access device (load offset size)).left
after_load contents offset size = contents

-- A store that is made is answered by 0. Read-only memory denies each.
abbrev pub stored : Contents DevState → (offset size value : ℕ) → Answer
stored (Writable bytes) offset size value = Answered 0
stored (ReadOnly bytes) offset size value = Denied
stored (Emulated device) offset size value =
    if is_some (device_access device (store offset size value)).answer then Answered 0 else Denied
stored (Shared area start) offset size value = InArea area (start + offset)

-- A store changes memory, but none that is read-only, and devices.
abbrev pub after_store : Contents DevState → (offset size value : ℕ) → Contents DevState
after_store (Writable bytes) offset size value = Writable (with_number bytes offset size value)
after_store (Emulated device) offset size value = Emulated (device_access device (store offset size value)).left
after_store contents offset size value = contents

-- Bytes are put into memory from outside, read-only memory too.
abbrev pub put_into : {D : Type 0} → Contents D → (offset : ℕ) → List ℕ → Contents D
put_into (Writable bytes) offset others = Writable (with_bytes bytes offset others)
put_into (ReadOnly bytes) offset others = ReadOnly (with_bytes bytes offset others)
put_into contents offset others = contents

-- A byte of memory.
abbrev pub byte_at : {D : Type 0} → Contents D → (offset : ℕ) → Option ℕ
byte_at (Writable bytes) offset = slice_get bytes offset
byte_at (ReadOnly bytes) offset = slice_get bytes offset
byte_at contents offset = None

-- The device, if the region is one.
abbrev pub device_in : {D : Type 0} → Contents D → Option D
device_in (Emulated device) = Some device
device_in contents = None
