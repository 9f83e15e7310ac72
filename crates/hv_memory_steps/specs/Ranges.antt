-- Ranges of a region's bytes that windows show to looks and loads from outside.
use Rattle.std.specs.Prelude.{ℕ, ◌+◌, ◌^◌, ◌<◌, ◌≤◌, nat_le, if◌then◌else◌, List, [], Option, None, Some}
use Rattle.hv_body.specs.Windows.{offset_in}
use Rattle.hv_body.specs.declared.contents.Contents.{Contents}
use Rattle.hv_body.specs.declared.contents.Contents.TheVariants.{Writable, ReadOnly, Emulated, Shared}
use Rattle.hv_body.specs.declared.live.Live.{Live}
use Rattle.hv_region.specs.declared.plan.Form.{Form}
use Rattle.hv_region.specs.declared.plan.Form.TheVariants as form
use Rattle.hv_region.specs.declared.plan.RegionPlan.{RegionPlan}
use Rattle.hv_region.specs.declared.window.Window.{Window}
use Rattle.hv_rules.specs.Body.{BodyValue, Range, range_of}
use Rattle.hv_text.specs.declared.limits.TheConstants.{MOST_MEMORY}
use Rattle.hv_memory_steps.specs.declared.ranges.Found.{Found}
use Rattle.hv_memory_steps.specs.declared.ranges.Found.TheVariants.{Own, InArea, NoMemory}

-- The range of a region's bytes that a window shows from an address on.
abbrev pub shown_range : BodyValue → Window → (address size : ℕ) → Range
shown_range body window address size = range_of body (offset_in window address) size

-- The memory of its own that a region has.
abbrev pub own_bytes : {D : Type 0} → Contents D → List ℕ
own_bytes (Writable bytes) = bytes
own_bytes (ReadOnly bytes) = bytes
own_bytes (Emulated device) = []
own_bytes (Shared number start) = []

abbrev pub own_memory : {D : Type 0} → Option (Live D) → List ℕ
own_memory None = []
own_memory (Some live) = own_bytes live.contents

-- Where the bytes of a region of a form are, from an offset on.
abbrev pub found_by : Form → (offset : ℕ) → Found
found_by form.Ram offset = Own offset
found_by form.Rom offset = Own offset
found_by (form.Device names) offset = NoMemory
found_by (form.Real number start) offset = InArea number (start + offset)
found_by (form.Alias address) offset = NoMemory

-- Where a range of a planned region's bytes is; behind its end there is no memory.
abbrev pub found_in : RegionPlan → (offset size : ℕ) → Found
found_in plan offset size = if nat_le (offset + size) plan.size then found_by plan.form offset else NoMemory

-- The same of the region that is live.
abbrev pub found_of : {D : Type 0} → Option (Live D) → (offset size : ℕ) → Found
found_of None offset size = NoMemory
found_of (Some live) offset size = found_in live.plan offset size

-- So many bytes from where they are found on end within the numbers of an offset, and those of an area within the most
-- bytes of one.
abbrev pub EndsWithin : (size : ℕ) → Found → Type 0
EndsWithin size (Own start) = start + size < 2 ^ 64
EndsWithin size (InArea number start) = start + size ≤ MOST_MEMORY
EndsWithin size NoMemory = Unit {0}
