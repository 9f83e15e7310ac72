-- Bodies that change are seen to change.
use Rattle.std.proofs.Common.{◌≡◌, ℕ, List, Bool, true, false, cond, refl, ap, Option, Some, None}
use Rattle.std.specs.Option.{option_map}
use Rattle.hv_body.specs.Body.{device_of, may_add, seen, with_contents, with_window, with_windows, without_window}
use Rattle.hv_body.specs.Contents.{device_in, map_device}
use Rattle.hv_body.specs.Windows.{put_in_order}
use Rattle.hv_body.specs.declared.contents.Contents.{Contents}
use Rattle.hv_body.specs.declared.contents.Contents.TheVariants.{Writable, ReadOnly, Emulated, Shared}
use Rattle.hv_body.specs.declared.live.Live.{Live}
use Rattle.hv_emu.specs.Device.{DevState}
use Rattle.hv_region.specs.declared.window.Window.{Window}

module _ {E : Type 0} (state : E → DevState) where
  device_in_seen : (contents : Contents E) → device_in (map_device state contents) ≡ option_map state (device_in contents)
  device_in_seen (Writable bytes) = refl
  device_in_seen (ReadOnly bytes) = refl
  device_in_seen (Emulated device) = refl
  device_in_seen (Shared area offset) = refl

  -- the device of a body
  pub device_seen : (body : Option (Live E)) → device_of (seen state body) ≡ option_map state (device_of body)
  device_seen None = refl
  device_seen (Some live) = device_in_seen live.contents

  either_seen : (live : Live E) (windows : List Window) (b : Bool)
      → with_contents (cond b (with_windows live windows) live) (map_device state (cond b (with_windows live windows) live).contents)
      ≡ cond b (with_windows (with_contents live (map_device state live.contents)) windows) (with_contents live (map_device state live.contents))
  either_seen live windows true = refl
  either_seen live windows false = refl

  -- a window that is added
  pub window_seen : (body : Option (Live E)) (window : Window) → seen state (with_window body window) ≡ with_window (seen state body) window
  window_seen None window = refl
  window_seen (Some live) window = λ i. Some (either_seen live (put_in_order window live.windows) (may_add live window) i)

  -- a window that goes
  pub without_seen : (body : Option (Live E)) (owner : ℕ) → seen state (without_window body owner) ≡ without_window (seen state body) owner
  without_seen None owner = refl
  without_seen (Some live) owner = refl

-- what is made of a device that is remembered
pub device_after : {X E D : Type 0} (f : X → E) (g : E → D) (o : Option X) (p : Option E) → option_map f o ≡ p → option_map (λ x. g (f x)) o ≡ option_map g p
device_after f g None p e = ap (option_map g) e
device_after f g (Some x) p e = ap (option_map g) e
