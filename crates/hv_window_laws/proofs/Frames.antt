-- What steps leave of windows that add and drop none.
use Rattle.std.proofs.Common.{◌≡◌, ℕ, ◌==◌, fold, Bool, true, false, cond, refl, sym, ap, subst, ◌∙◌, List, Option, None, Some, Ok, option_map}
use Rattle.std.specs.List.{AllByRecursion}
use Rattle.std.specs.Option.{option_map_or}
use Rattle.hv_answer.specs.declared.reply.Reply.{Reply}
use Rattle.hv_answer.specs.declared.reply.Reply.TheVariants as reply
use Rattle.hv_body.specs.Body.{left, on_device, with_stored}
use Rattle.hv_body.specs.declared.contents.Contents.{Contents}
use Rattle.hv_body.specs.declared.place.Place.{Place}
use Rattle.hv_emu.specs.Device.{DevState, after_reset, after_tick, after_feed, after_source}
use Rattle.hv_kinds.specs.declared.access.Direction.{Direction}
use Rattle.hv_kinds.specs.declared.access.Direction.TheVariants.{Read, Write}
use Rattle.hv_region.specs.declared.window.Window.{Window}
use Rattle.hv_rules.specs.Body.{BodyValue, body_after, access_leaves, place_of, with_file, signalled}
use Rattle.hv_rules.specs.Carry.{Carry}
use Rattle.hv_rules.specs.Space.{space_after}
use Rattle.hv_space.specs.Space.{SpaceState}
use Rattle.hv_step.specs.declared.step.Step.{Step}
use Rattle.hv_step.specs.declared.step.Step.TheVariants as step
use Rattle.hv_window_laws.specs.Windows.{windows_of, own_of}
use Rattle.hv_window_laws.proofs.Slots.{Slot}

-- a step adds or drops a region
abbrev pub changes_windows : Step → Bool
changes_windows (step.Add s) = true
changes_windows (step.Drop s) = true
changes_windows s = false

-- two bodies have the same windows, and the same window of their own
abbrev pub Alike : (row : ℕ) → (before after : BodyValue) → Type 0
Alike row before after = (windows_of after ≡ windows_of before) × (option_map (own_of row) after ≡ option_map (own_of row) before)

pub alike-same : (row : ℕ) (before after : BodyValue) → after ≡ before → Alike row before after
alike-same row before after same = (ap windows_of same, ap (option_map (own_of row)) same)

device-alike : (row : ℕ) (f : DevState → DevState) (body : BodyValue) → Alike row body (on_device f body)
device-alike row f None = (refl, refl)
device-alike row f (Some live) = (refl, refl)

stored-alike : (row offset : ℕ) (bytes : List ℕ) (body : BodyValue) → Alike row body (with_stored body offset bytes)
stored-alike row offset bytes None = (refl, refl)
stored-alike row offset bytes (Some live) = (refl, refl)

left-alike : (row : ℕ) (body : BodyValue) (place : Place) (after : Contents DevState → (offset : ℕ) → Contents DevState) → Alike row body (left body place after)
left-alike row None place after = (refl, refl)
left-alike row (Some live) place after = (refl, refl)

access-alike : (row : ℕ) (body : BodyValue) (way : Direction) (value : ℕ) (place : Place) → Alike row body (access_leaves body way value place)
access-alike row None Read value place = (refl, refl)
access-alike row (Some live) Read value place = (refl, refl)
access-alike row None Write value place = (refl, refl)
access-alike row (Some live) Write value place = (refl, refl)

place-alike : (row : ℕ) (body : BodyValue) (way : Direction) (value : ℕ) (place : Option Place) → Alike row body (option_map_or (access_leaves body way value) place body)
place-alike row body way value None = (refl, refl)
place-alike row body way value (Some place) = access-alike row body way value place

file-alike : (row address : ℕ) (window : Option Window) (file : Option (List ℕ)) (body : BodyValue) → Alike row body (with_file address window file body)
file-alike row address None file body = (refl, refl)
file-alike row address (Some window) None body = (refl, refl)
file-alike row address (Some window) (Some bytes) None = (refl, refl)
file-alike row address (Some window) (Some bytes) (Some live) = (refl, refl)

chosen-alike : (row : ℕ) (b : Bool) (body other : BodyValue) → Alike row body other → Alike row body (cond b other body)
chosen-alike row true body other alike = alike
chosen-alike row false body other alike = (refl, refl)

pub body-alike : (row : ℕ) (body : BodyValue) (s : Step) (r : Reply) (c : Carry) → changes_windows s ≡ false → Alike row body (body_after row body s r c)
body-alike row body (step.Add s) r c keeps = absurd (cc)
body-alike row body (step.Drop s) r c keeps = absurd (cc)
body-alike row body (step.Load s) (reply.Load (Ok size)) c keeps = file-alike row s.address c.window c.bytes body
body-alike row body (step.Load s) r c keeps = (refl, refl)
body-alike row body (step.Devreset s) (reply.Devreset (Ok changed)) c keeps = device-alike row after_reset body
body-alike row body (step.Devreset s) r c keeps = (refl, refl)
body-alike row body (step.Feed s) (reply.Feed (Ok changed)) c keeps = device-alike row (λ device. fold after_feed device s.bytes) body
body-alike row body (step.Feed s) r c keeps = (refl, refl)
body-alike row body (step.Tick s) (reply.Tick (Some changed)) c keeps = device-alike row after_tick body
body-alike row body (step.Tick s) r c keeps = (refl, refl)
body-alike row body (step.Access s) r c keeps = place-alike row body s.direction s.value (place_of s.generation.birth s.address s.size)
body-alike row body (step.Sample s) (reply.Sample (Some sampled)) c keeps =
    chosen-alike row (row == s.parent) body (signalled s.source sampled.level body) (device-alike row (λ device. after_source device s.source sampled.level) body)
body-alike row body (step.Sample s) r c keeps = (refl, refl)
body-alike row body s r c keeps = (refl, refl)

pub space-same : (space : SpaceState) (s : Step) (r : Reply) (c : Carry) → changes_windows s ≡ false → space_after space s r c ≡ space
space-same space (step.Add s) r c keeps = absurd (cc)
space-same space (step.Drop s) r c keeps = absurd (cc)
space-same space s r c keeps = refl

-- a slot whose windows and bodies are alike
pub slot-alike : (ws : List Window) (bodies : ℕ → BodyValue) (born : Option ℕ) (after : List Window) (next : ℕ → BodyValue) (later : Option ℕ)
    → after ≡ ws → ((j : ℕ) → Alike j (bodies j) (next j)) → AllByRecursion (λ w. later ≡ Some w.birth) ws → Slot ws bodies born → Slot after next later
slot-alike ws bodies born after next later same alike births J =
    let kept : Slot ws next later = record {
      order = J.order;
      reached = λ j. (alike j).0 ∙ J.reached j;
      live = λ j. J.live j ∙ sym (alike j).1;
      births = births;
    } in
    subst (λ l. Slot l next later) (sym same) kept
