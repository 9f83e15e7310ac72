-- What is known of a region's contents, and that steps keep it.
use Rattle.std.proofs.Common.{◌≡◌, ℕ, ◌+◌, ◌≤◌, ◌==◌, ◌&&◌, ◌||◌, fold, Bool, true, false, cond, refl, sym, ap, subst, List, [], ◌∷◌, arith, Option, None, Some, Ok, option_map, eqb-true}
use Rattle.std.specs.List.{AllByRecursion, list_any}
use Rattle.std.specs.Option.{option_map_or}
use Rattle.std.proofs.lemmas.Option.{same_Some}
use Rattle.hv_answer.specs.declared.reply.Reply.{Reply}
use Rattle.hv_answer.specs.declared.reply.Reply.TheVariants as reply
use Rattle.hv_body.proofs.WindowLemmas.{shows_within}
use Rattle.hv_body.specs.Body.{may_add, on_device, own_window, with_stored, with_window}
use Rattle.hv_body.specs.Contents.{after_load, after_store, map_device, new_contents, put_into}
use Rattle.hv_body.specs.Windows.{lies_apart, lies_within, offset_of, put_in_order}
use Rattle.hv_body.specs.declared.contents.Contents.{Contents}
use Rattle.hv_body.specs.declared.contents.Contents.TheVariants.{Writable, ReadOnly, Emulated, Shared}
use Rattle.hv_body.specs.declared.live.Live.{Live}
use Rattle.hv_body.specs.declared.place.Place.{Place}
use Rattle.hv_emu.specs.Device.{DevState, after_attach, after_feed, after_reset, after_source, after_tick}
use Rattle.hv_event.specs.declared.event.CellId.TheVariants.{Shelf, Space, Body}
use Rattle.hv_kinds.specs.declared.access.Direction.{Direction}
use Rattle.hv_kinds.specs.declared.access.Direction.TheVariants.{Read, Write}
use Rattle.hv_kinds.specs.declared.generation.Generation.{Generation}
use Rattle.hv_model.specs.Cell.{same_component}
use Rattle.hv_model.specs.Plans.{Planned}
use Rattle.hv_region.specs.declared.plan.Form.{Form}
use Rattle.hv_region.specs.declared.plan.Form.TheVariants.{Ram, Rom, Device, Real, Alias}
use Rattle.hv_region.specs.declared.plan.RegionPlan.{RegionPlan}
use Rattle.hv_region.specs.declared.window.Window.{Window}
use Rattle.hv_rules.specs.Body.{BodyValue, access_leaves, body_after, built, dropped, place_of, signalled, with_file}
use Rattle.hv_rules.specs.Carry.{Carry}
use Rattle.hv_rules.specs.Footprint.{changed_body, past_dir}
use Rattle.hv_rules.specs.Windows.{Region, window_of}
use Rattle.hv_rules.specs.Windows as region
use Rattle.hv_step.specs.declared.step.Step.{Step}
use Rattle.hv_step.specs.declared.step.Step.TheVariants as step
use Rattle.hv_window_laws.proofs.Frames.{changes_windows}
use Rattle.hv_window_laws.proofs.Lists.{and-left, and-right, each-filter, each-put}
use Rattle.hv_bound_laws.specs.Bounds.{IsPlanAt}

-- the area that contents show, and from where on

abbrev pub shared_of : Contents DevState → Option (ℕ × ℕ)
shared_of (Writable bytes) = None
shared_of (ReadOnly bytes) = None
shared_of (Emulated device) = None
shared_of (Shared area start) = Some (area, start)

-- the plan, that area and the windows of a region

abbrev pub Known : Type 0
Known = RegionPlan × Option (ℕ × ℕ) × List Window

abbrev pub known_of : Live DevState → Known
known_of live = (live.plan, shared_of live.contents, live.windows)

abbrev pub known : BodyValue → Option Known
known body = option_map known_of body

-- the area is that of the plan
abbrev pub IsBy : Form → Option (ℕ × ℕ) → Type 0
IsBy form None = Unit {0}
IsBy form (Some part) = form ≡ Real part.0 part.1

-- a window shows nothing behind the region
abbrev pub IsWithin : (size : ℕ) → Window → Type 0
IsWithin size w = w.offset + w.size ≤ size

module _ (plans : List Planned) where
  pub record Fits (row : ℕ) (plan : RegionPlan) (part : Option (ℕ × ℕ)) (windows : List Window) : Type 0 where
    pub planned : IsPlanAt plans row plan
    pub shared : IsBy plan.form part
    pub within : AllByRecursion (IsWithin plan.size) windows

  abbrev pub KnownFits : (row : ℕ) → Option Known → Type 0
  KnownFits row None = Unit {0}
  KnownFits row (Some k) = Fits row k.0 k.1 k.2

  abbrev pub BodyFits : (row : ℕ) → BodyValue → Type 0
  BodyFits row body = KnownFits row (known body)

-- steps that add and drop no region leave all that is known

shared-map : (f : DevState → DevState) (contents : Contents DevState) → shared_of (map_device f contents) ≡ shared_of contents
shared-map f (Writable bytes) = refl
shared-map f (ReadOnly bytes) = refl
shared-map f (Emulated device) = refl
shared-map f (Shared area start) = refl

shared-put : (contents : Contents DevState) (offset : ℕ) (bytes : List ℕ) → shared_of (put_into contents offset bytes) ≡ shared_of contents
shared-put (Writable bytes) offset others = refl
shared-put (ReadOnly bytes) offset others = refl
shared-put (Emulated device) offset others = refl
shared-put (Shared area start) offset others = refl

shared-load : (contents : Contents DevState) (offset size : ℕ) → shared_of (after_load contents offset size) ≡ shared_of contents
shared-load (Writable bytes) offset size = refl
shared-load (ReadOnly bytes) offset size = refl
shared-load (Emulated device) offset size = refl
shared-load (Shared area start) offset size = refl

shared-store : (contents : Contents DevState) (offset size value : ℕ) → shared_of (after_store contents offset size value) ≡ shared_of contents
shared-store (Writable bytes) offset size value = refl
shared-store (ReadOnly bytes) offset size value = refl
shared-store (Emulated device) offset size value = refl
shared-store (Shared area start) offset size value = refl

abbrev with-part : Live DevState → Option (ℕ × ℕ) → Option Known
with-part live part = Some (live.plan, part, live.windows)

device-same : (f : DevState → DevState) (body : BodyValue) → known (on_device f body) ≡ known body
device-same f None = refl
device-same f (Some live) = ap (with-part live) (shared-map f live.contents)

stored-same : (offset : ℕ) (bytes : List ℕ) (body : BodyValue) → known (with_stored body offset bytes) ≡ known body
stored-same offset bytes None = refl
stored-same offset bytes (Some live) = ap (with-part live) (shared-put live.contents offset bytes)

left-part : (found : Option ℕ) (contents : Contents DevState) (after : (offset : ℕ) → Contents DevState) → ((offset : ℕ) → shared_of (after offset) ≡ shared_of contents)
    → shared_of (option_map_or after found contents) ≡ shared_of contents
left-part None contents after same = refl
left-part (Some offset) contents after same = same offset

access-same : (body : BodyValue) (way : Direction) (value : ℕ) (place : Place) → known (access_leaves body way value place) ≡ known body
access-same None Read value place = refl
access-same None Write value place = refl
access-same (Some live) Read value place =
    ap (with-part live)
    (left-part (offset_of live.windows place) live.contents (λ offset. after_load live.contents offset place.size) (λ offset. shared-load live.contents offset place.size))
access-same (Some live) Write value place =
    ap (with-part live)
    (left-part (offset_of live.windows place) live.contents (λ offset. after_store live.contents offset place.size value) (λ offset. shared-store live.contents offset place.size value))

place-same : (body : BodyValue) (way : Direction) (value : ℕ) (place : Option Place) → known (option_map_or (access_leaves body way value) place body) ≡ known body
place-same body way value None = refl
place-same body way value (Some place) = access-same body way value place

file-same : (address : ℕ) (window : Option Window) (file : Option (List ℕ)) (body : BodyValue) → known (with_file address window file body) ≡ known body
file-same address None file body = refl
file-same address (Some window) None body = refl
file-same address (Some window) (Some bytes) body = stored-same _ bytes body

chosen-same : (b : Bool) (body other : BodyValue) → known other ≡ known body → known (cond b other body) ≡ known body
chosen-same true body other same = same
chosen-same false body other same = refl

pub body-same : (row : ℕ) (body : BodyValue) (s : Step) (r : Reply) (c : Carry) → changes_windows s ≡ false → known (body_after row body s r c) ≡ known body
body-same row body (step.Add s) r c keeps = absurd (cc)
body-same row body (step.Drop s) r c keeps = absurd (cc)
body-same row body (step.Load s) (reply.Load (Ok size)) c keeps = file-same s.address c.window c.bytes body
body-same row body (step.Load s) r c keeps = refl
body-same row body (step.Devreset s) (reply.Devreset (Ok changed)) c keeps = device-same after_reset body
body-same row body (step.Devreset s) r c keeps = refl
body-same row body (step.Feed s) (reply.Feed (Ok changed)) c keeps = device-same (λ device. fold after_feed device s.bytes) body
body-same row body (step.Feed s) r c keeps = refl
body-same row body (step.Tick s) (reply.Tick (Some changed)) c keeps = device-same after_tick body
body-same row body (step.Tick s) r c keeps = refl
body-same row body (step.Access s) r c keeps = place-same body s.direction s.value (place_of s.generation.birth s.address s.size)
body-same row body (step.Sample s) (reply.Sample (Some sampled)) c keeps =
    chosen-same (row == s.parent) body (signalled s.source sampled.level body) (device-same (λ device. after_source device s.source sampled.level) body)
body-same row body (step.Sample s) r c keeps = refl
body-same row body s r c keeps = refl

module _ (plans : List Planned) where
  pub same-fits : (row : ℕ) (body : BodyValue) (s : Step) (r : Reply) (c : Carry) → changes_windows s ≡ false → BodyFits plans row body → BodyFits plans row (body_after row body s r c)
  same-fits row body s r c keeps fits = subst (KnownFits plans row) (sym (body-same row body s r c keeps)) fits

  -- a region that is dropped

  pub dropped-fits : (j row : ℕ) (target : Option (ℕ × ℕ)) (body : BodyValue) → BodyFits plans j body → BodyFits plans j (dropped row target body)
  dropped-fits j row None body fits = tt
  dropped-fits j row (Some target) None fits = tt
  dropped-fits j row (Some target) (Some live) fits = record {
    planned = fits.planned;
    shared = fits.shared;
    within = each-filter (IsWithin live.plan.size) _ live.windows fits.within;
  }

  pub drop-fits : (j : ℕ) (row : Option ℕ) (target : Option (ℕ × ℕ)) (body : BodyValue) → BodyFits plans j body → BodyFits plans j (option_map_or (λ gone. dropped gone target body) row body)
  drop-fits j None target body fits = fits
  drop-fits j (Some row) target body fits = dropped-fits j row target body fits

  -- a region that is added

  new-by : (form : Form) (size : ℕ) (device : Option DevState) (contents : Contents DevState) → new_contents form size device ≡ Some contents → IsBy form (shared_of contents)
  new-by form size device (Writable bytes) is = tt
  new-by form size device (ReadOnly bytes) is = tt
  new-by form size device (Emulated d) is = tt
  new-by Ram size None (Shared area start) is = absurd (cc is)
  new-by Ram size (Some d) (Shared area start) is = absurd (cc is)
  new-by Rom size None (Shared area start) is = absurd (cc is)
  new-by Rom size (Some d) (Shared area start) is = absurd (cc is)
  new-by (Device names) size None (Shared area start) is = absurd (cc is)
  new-by (Device names) size (Some d) (Shared area start) is = absurd (cc is)
  new-by (Alias address) size None (Shared area start) is = absurd (cc is)
  new-by (Alias address) size (Some d) (Shared area start) is = absurd (cc is)
  new-by (Real number offset) size (Some d) (Shared area start) is = absurd (cc is)
  new-by (Real number offset) size None (Shared area start) is =
      let same : Shared number offset ≡ Shared area start = same_Some (Shared number offset) (Shared area start) is in
      let of : Contents DevState → Form = λ contents. option_map_or (λ part. Real part.0 part.1) (shared_of contents) Ram in
      ap of same

  filled-by : (j birth : ℕ) (plan : RegionPlan) (device : Option DevState) (made : Option (Contents DevState)) → new_contents plan.form plan.size device ≡ made → IsPlanAt plans j plan
      → BodyFits plans j (option_map (λ contents. record { birth = birth; plan = plan; contents = contents; windows = own_window birth j plan ∷ [] }) made)
  filled-by j birth plan device None is planned = tt
  filled-by j birth plan device (Some contents) is planned = record {
    planned = planned;
    shared = new-by plan.form plan.size device contents is;
    within = (omega arith, tt);
  }

  window-by : (j : ℕ) (live : Live DevState) (w : Window) (b : Bool) → may_add live w ≡ b → BodyFits plans j (Some live)
      → BodyFits plans j (Some (cond b (record live { windows = put_in_order w live.windows }) live))
  window-by j live w false is fits = fits
  window-by j live w true is fits =
      let apart = lies_apart live.windows w in
      let front = and-left _ apart is in
      let shows : lies_within live.plan.size w ≡ true = and-right _ (lies_within live.plan.size w) front in
      record {
        planned = fits.planned;
        shared = fits.shared;
        within = each-put (IsWithin live.plan.size) w live.windows (shows_within live.plan.size w shows) fits.within;
      }

  window-fits : (j : ℕ) (body : BodyValue) (w : Window) → BodyFits plans j body → BodyFits plans j (with_window body w)
  window-fits j None w fits = tt
  window-fits j (Some live) w fits = window-by j live w (may_add live w) refl fits

  -- the body of a row is the one that is touched
  row-touched : (g slot j row : ℕ) → (((g == slot) && (j == row)) || false) ≡ true → j ≡ row
  row-touched g slot j row is = eqb-true j row (by (g == slot) (j == row) is)
    where
      by : (a b : Bool) → ((a && b) || false) ≡ true → b ≡ true
      by true true is = refl
      by true false is = is
      by false b is = absurd (cc is)

  pub add-fits : (g j : ℕ) (gen : Option Generation) (row : Option ℕ) (plan : Option (RegionPlan × ℕ)) (device : Option DevState) (target : Option (ℕ × ℕ)) (body : BodyValue)
      → list_any (same_component (Body g j)) (past_dir gen (λ guest. Shelf ∷ Space guest.slot ∷ changed_body guest row target)) ≡ true
      → ((n : ℕ) (p : RegionPlan × ℕ) → row ≡ Some n → plan ≡ Some p → IsPlanAt plans n p.0)
      → BodyFits plans j body → BodyFits plans j (option_map_or (λ region. built region device target body) (region.region_of gen row plan) body)
  add-fits g j None row plan device target body touched planned fits = fits
  add-fits g j (Some gen) None plan device target body touched planned fits = fits
  add-fits g j (Some gen) (Some n) None device target body touched planned fits = fits
  add-fits g j (Some gen) (Some n) (Some p) device None body touched planned fits =
      let here : j ≡ n = row-touched g gen.slot j n touched in
      let it : Option DevState = option_map (λ cold. after_attach cold p.1) device in
      subst (λ (k : ℕ). BodyFits plans j (option_map (λ contents. record { birth = gen.birth; plan = p.0; contents = contents; windows = own_window gen.birth k p.0 ∷ [] }) (new_contents p.0.form p.0.size it)))
      here
      (filled-by j gen.birth p.0 it (new_contents p.0.form p.0.size it) refl (subst (λ (k : ℕ). IsPlanAt plans k p.0) (sym here) (planned n p refl refl)))
  add-fits g j (Some gen) (Some n) (Some p) device (Some t) body touched planned fits =
      window-fits j body (window_of (record { birth = gen.birth; row = n; plan = p.0; vcpus = p.1 }) (Some t)) fits
