-- What holds of each body.
use Rattle.std.specs.Prelude.{◌≡◌, ℕ, ◌+◌, ◌^◌, ◌<◌, ◌≤◌, List, [], length, replicate, All, Option, Some, None}
use Rattle.hv_region.specs.declared.plan.Form.{Form}
use Rattle.hv_region.specs.declared.plan.Form.TheVariants.{Ram, Rom, Device, Real}
use Rattle.hv_region.specs.declared.plan.RegionPlan.{RegionPlan}
use Rattle.hv_text.specs.declared.limits.TheConstants.{MOST_MEMORY}
use Rattle.hv_body.specs.declared.contents.Contents.{Contents}
use Rattle.hv_body.specs.declared.contents.Contents.TheVariants.{Writable, ReadOnly, Emulated, Shared}
use Rattle.hv_body.specs.declared.live.Live.{Live}
use Rattle.hv_body.specs.declared.place.Answer.{Answer}
use Rattle.hv_body.specs.declared.place.Answer.TheVariants.{Answered, Denied, NoExec, InArea, NotHere}

-- A plan is of a device.
abbrev pub IsDevice : Form → Type 0
IsDevice (Device names) = Unit {0}
IsDevice _ = ⊥

-- A region that shows an area ends within the most bytes of one.
abbrev pub FitsArea : (size : ℕ) → Form → Type 0
FitsArea size (Real area offset) = offset + size ≤ MOST_MEMORY
FitsArea size _ = Unit {0}

-- The contents are of the form that the plan has, and memory has as many bytes as the region.
abbrev pub HasForm : {D : Type 0} → RegionPlan → Contents D → Type 0
HasForm plan (Writable bytes) = (plan.form ≡ Ram) × (length bytes ≡ plan.size)
HasForm plan (ReadOnly bytes) = (plan.form ≡ Rom) × (length bytes ≡ plan.size)
HasForm plan (Emulated device) = IsDevice plan.form
HasForm plan (Shared area offset) = (plan.form ≡ Real area offset) × (offset + plan.size ≤ MOST_MEMORY)

-- A live body has contents by its plan, and no window that shows anything behind them.
pub record IsLive {D : Type 0} (live : Live D) : Type 0 where
  pub form : HasForm live.plan live.contents
  pub within : All (λ window. window.offset + window.size ≤ live.plan.size) live.windows

-- An empty body has nothing to hold.
abbrev pub IsBody : {D : Type 0} → Option (Live D) → Type 0
IsBody None = Unit {0}
IsBody (Some live) = IsLive live

-- The contents are memory that has bytes up to an end, a device, or a part of an area that ends within the most bytes of
-- one.
abbrev pub ReachesTo : {D : Type 0} → Contents D → (end : ℕ) → Type 0
ReachesTo (Writable bytes) end = end ≤ length bytes
ReachesTo (ReadOnly bytes) end = end ≤ length bytes
ReachesTo (Emulated device) end = Unit {0}
ReachesTo (Shared area offset) end = offset + end ≤ MOST_MEMORY

-- What is answered to a fetch fits its bytes, and those of an area end within the most bytes of one.
abbrev pub FitsAnswer : (size : ℕ) → Answer → Type 0
FitsAnswer size (Answered value) = value < 256 ^ size
FitsAnswer size (InArea area offset) = offset + size ≤ MOST_MEMORY
FitsAnswer size Denied = Unit {0}
FitsAnswer size NoExec = Unit {0}
FitsAnswer size NotHere = Unit {0}

-- Contents are memory that has bytes up to an end.
abbrev pub IsMemory : {D : Type 0} → Contents D → (end : ℕ) → Type 0
IsMemory (Writable bytes) end = end ≤ length bytes
IsMemory (ReadOnly bytes) end = end ≤ length bytes
IsMemory _ end = ⊥

-- A body is memory that has bytes up to an end.
abbrev pub HasMemory : {D : Type 0} → Option (Live D) → (end : ℕ) → Type 0
HasMemory None end = ⊥
HasMemory (Some live) end = IsMemory live.contents end

-- The memory that a region of this form needs: all zero for RAM and ROM, and else none.
abbrev pub zeros_for : Form → (size : ℕ) → List ℕ
zeros_for Ram size = replicate size 0
zeros_for Rom size = replicate size 0
zeros_for _ size = []

-- A region of a form can be made, with a device handed in exactly where the form asks for one. An alias can't.
abbrev pub CanMake : {D : Type 0} → Form → Option D → Type 0
CanMake Ram None = Unit {0}
CanMake Rom None = Unit {0}
CanMake (Device names) (Some device) = Unit {0}
CanMake (Real area offset) None = Unit {0}
CanMake _ _ = ⊥
