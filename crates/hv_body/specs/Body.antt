-- The contents of one region of a guest, with the windows that reach them.
-- A body is empty, or live: it has the birth of its guest, the region's plan, its contents and its windows.
use Rattle.std.specs.Prelude.{ℕ, Bool, false, ◌&&◌, ◌==◌, if◌then◌else◌, List, [], ◌∷◌, Option, Some, None}
use Rattle.std.specs.Option.{option_map, option_map_or, option_and_then}
use Rattle.hv_emu.specs.Device.{DevState}
use Rattle.hv_kinds.specs.declared.pins.Pins.{Pins}
use Rattle.hv_region.specs.Windows.{without_owner}
use Rattle.hv_region.specs.declared.plan.RegionPlan.{RegionPlan}
use Rattle.hv_region.specs.declared.window.Window.{Window}
use Rattle.hv_body.specs.Windows.{offset_of, lies_apart, is_new_owner, lies_within, put_in_order}
use Rattle.hv_body.specs.Contents.{map_device, new_contents, fetched, loaded, after_load, stored, after_store, put_into, byte_at, device_in}
use Rattle.hv_body.specs.declared.contents.Contents.{Contents}
use Rattle.hv_body.specs.declared.live.Live.{Live}
use Rattle.hv_body.specs.declared.place.Place.{Place}
use Rattle.hv_body.specs.declared.place.Answer.{Answer}
use Rattle.hv_body.specs.declared.place.Answer.TheVariants.{NotHere}

-- A live body with other contents.
abbrev pub with_contents : {D E : Type 0} → Live E → Contents D → Live D
with_contents live contents =
    record { birth = live.birth; plan = live.plan; contents = contents; windows = live.windows }

-- A live body with other windows.
abbrev pub with_windows : {D : Type 0} → Live D → List Window → Live D
with_windows live windows = record live { windows = windows }

-- A body with its device seen as the state that it stands for.
abbrev pub seen : {E : Type 0} → (state : E → DevState) → Option (Live E) → Option (Live DevState)
seen state body = option_map (λ live. with_contents live (map_device state live.contents)) body

-- The window of a region's own: it shows the whole region where its plan puts it.
abbrev pub own_window : (birth row : ℕ) → RegionPlan → Window
own_window birth row plan =
    record {
      owner = row;
      target = row;
      birth = birth;
      kind = plan.kind;
      base = plan.base;
      size = plan.size;
      offset = 0;
    }

-- The body of a new region, with a device exactly where the plan asks for one.
abbrev pub filled : {D : Type 0} → (birth row : ℕ) → RegionPlan → Option D → Option (Live D)
filled birth row plan device =
    option_map
    (λ contents.
    record {
      birth = birth;
      plan = plan;
      contents = contents;
      windows = own_window birth row plan ∷ [];
    })
    (new_contents plan.form plan.size device)

-- An access is answered at the offset to which a window leads, and isn't here where no window holds it.
abbrev pub answered : {D : Type 0} → Option (Live D) → Place → (Contents D → (offset : ℕ) → Answer) → Answer
answered None place answer = NotHere
answered (Some live) place answer = option_map_or (answer live.contents) (offset_of live.windows place) NotHere

-- An access changes the contents at that offset.
abbrev pub left : {D : Type 0} → Option (Live D) → Place → (Contents D → (offset : ℕ) → Contents D) → Option (Live D)
left None place after = None
left (Some live) place after =
    Some (with_contents live (option_map_or (after live.contents) (offset_of live.windows place) live.contents))

-- What a fetch, a load and a store of a guest answer.
abbrev pub fetch_answer : {D : Type 0} → Option (Live D) → Place → Answer
fetch_answer body place = answered body place (λ contents offset. fetched contents offset place.size)

abbrev pub load_answer : Option (Live DevState) → Place → Answer
load_answer body place = answered body place (λ contents offset. loaded contents offset place.size)

abbrev pub store_answer : Option (Live DevState) → Place → (value : ℕ) → Answer
store_answer body place value = answered body place (λ contents offset. stored contents offset place.size value)

-- What a load and a store leave.
abbrev pub load_leaves : Option (Live DevState) → Place → Option (Live DevState)
load_leaves body place = left body place (λ contents offset. after_load contents offset place.size)

abbrev pub store_leaves : Option (Live DevState) → Place → (value : ℕ) → Option (Live DevState)
store_leaves body place value = left body place (λ contents offset. after_store contents offset place.size value)

-- A window may be added to a live body: it is of its birth, belongs to a region that has none there, shows some of
-- the region and nothing behind it, keeps the bounds of its type and meets no other window there.
abbrev pub may_add : {D : Type 0} → Live D → Window → Bool
may_add live window =
    (window.birth == live.birth) && is_new_owner live.windows window && lies_within live.plan.size window
    && lies_apart live.windows window

-- A window that may be added is, and any other changes nothing.
abbrev pub with_window : {D : Type 0} → Option (Live D) → Window → Option (Live D)
with_window body window =
    option_map
    (λ live. if may_add live window then with_windows live (put_in_order window live.windows) else live)
    body

-- The window of an owner goes.
abbrev pub without_window : {D : Type 0} → Option (Live D) → (owner : ℕ) → Option (Live D)
without_window body owner =
    option_map (λ live. with_windows live (without_owner owner live.windows)) body

-- Bytes are put into a body's memory from outside.
abbrev pub with_stored : {D : Type 0} → Option (Live D) → (offset : ℕ) → List ℕ → Option (Live D)
with_stored body offset bytes = option_map (λ live. with_contents live (put_into live.contents offset bytes)) body

-- A byte of a body's memory.
abbrev pub byte_of : {D : Type 0} → Option (Live D) → (offset : ℕ) → Option ℕ
byte_of body offset = option_and_then (λ live. byte_at live.contents offset) body

-- A body's device, if it has one.
abbrev pub device_of : {D : Type 0} → Option (Live D) → Option D
device_of body = option_and_then (λ live. device_in live.contents) body

-- The device of a body changes, if it has one.
abbrev pub on_device : (DevState → DevState) → Option (Live DevState) → Option (Live DevState)
on_device after body = option_map (λ live. with_contents live (map_device after live.contents)) body

-- No pin is high.
abbrev pub no_pins : Pins
no_pins = record { ext = false; soft = false; timer = false }

-- What the device of a body shows, or what a body without one does.
abbrev pub shown : {A : Type 0} → (DevState → A) → (absent : A) → Option (Live DevState) → A
shown show absent body = option_map_or show (device_of body) absent
