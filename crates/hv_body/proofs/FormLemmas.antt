-- Contents keep the form of their plan.
use Rattle.std.proofs.Common.{◌≡◌, ℕ, ◌+◌, ◌≤◌, List, ◌++◌, length, take, drop, ◌∙◌, arith, length-append, length-drop, length-take}
use Rattle.byteorder.specs.Endian.{little_bytes}
use Rattle.byteorder.specs.Numbers.{length-bytes_low_first}
use Rattle.hv_emu.specs.Device.{DevState}
use Rattle.hv_region.specs.declared.plan.RegionPlan.{RegionPlan}
use Rattle.hv_body.specs.Memory.{with_bytes}
use Rattle.hv_body.specs.Contents.{map_device, after_store}
use Rattle.hv_body.specs.Rules.{HasForm, ReachesTo}
use Rattle.hv_body.specs.declared.contents.Contents.{Contents}
use Rattle.hv_body.specs.declared.contents.Contents.TheVariants.{Writable, ReadOnly, Emulated, Shared}

module _ {D E : Type 0} (f : E → D) where
  -- the form is the same whatever a device is seen as
  pub form_seen : (plan : RegionPlan) (contents : Contents E) → HasForm plan contents → HasForm plan (map_device f contents)
  form_seen plan (Writable bytes) form = form
  form_seen plan (ReadOnly bytes) form = form
  form_seen plan (Emulated device) form = form
  form_seen plan (Shared area offset) form = form

  -- and back
  pub form_of_seen : (plan : RegionPlan) (contents : Contents E) → HasForm plan (map_device f contents) → HasForm plan contents
  form_of_seen plan (Writable bytes) form = form
  form_of_seen plan (ReadOnly bytes) form = form
  form_of_seen plan (Emulated device) form = form
  form_of_seen plan (Shared area offset) form = form

  -- and so are the bytes
  pub reaches_seen : (contents : Contents E) (end : ℕ) → ReachesTo contents end → ReachesTo (map_device f contents) end
  reaches_seen (Writable bytes) end to = to
  reaches_seen (ReadOnly bytes) end to = to
  reaches_seen (Emulated device) end to = to
  reaches_seen (Shared area offset) end to = to

-- a write within memory keeps its length
pub length_with : (bytes : List ℕ) (offset : ℕ) (others : List ℕ) → offset + length others ≤ length bytes → length (with_bytes bytes offset others) ≡ length bytes
length_with bytes offset others within =
    omega (arith, length-append (take offset bytes ++ others) (drop (offset + length others) bytes), length-append (take offset bytes) others, length-drop (offset + length others) bytes, length-take offset bytes)

-- a store keeps the form
pub form_stored : (plan : RegionPlan) (contents : Contents DevState) (offset size value : ℕ) → ReachesTo contents (offset + size) → HasForm plan contents → HasForm plan (after_store contents offset size value)
form_stored plan (Writable bytes) offset size value within form =
    let long : length (little_bytes size value) ≡ size = length-bytes_low_first 0 size value in
    (form.0, length_with bytes offset (little_bytes size value) (omega arith) ∙ form.1)
form_stored plan (ReadOnly bytes) offset size value within form = form
form_stored plan (Emulated device) offset size value within form = form
form_stored plan (Shared area start) offset size value within form = form
