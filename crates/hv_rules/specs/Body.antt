-- The component of a region's contents: to which events it agrees, and what an event leaves in it.
use Rattle.std.specs.Prelude.{◌≡◌, ℕ, ◌+◌, ◌-◌, ◌*◌, ◌%◌, ◌==◌, nat_le, length, slice_range, fold, MatchBool, IsSomeAnd}
use Rattle.std.specs.Prelude.{Bool, true, false, not, ◌&&◌, ◌||◌, if◌then◌else◌}
use Rattle.std.specs.Prelude.{List, [], ◌∷◌, map, Option, None, Some, Result, Ok, Err, option_map, option_and_then}
use Rattle.std.specs.List.{range_with_len}
use Rattle.std.specs.Option.{option_map_or}
use Rattle.hv_answer.specs.declared.reply.Accessed.{Accessed}
use Rattle.hv_answer.specs.declared.reply.Reply.{Reply}
use Rattle.hv_answer.specs.declared.reply.Reply.TheVariants as reply
use Rattle.hv_body.specs.Body.{filled, fetch_answer, load_answer, load_leaves, store_answer, store_leaves}
use Rattle.hv_body.specs.Body.{with_window, without_window, with_stored, device_of, on_device, no_pins, shown}
use Rattle.hv_body.specs.Windows.{offset_in}
use Rattle.hv_body.specs.declared.contents.Contents.{Contents}
use Rattle.hv_body.specs.declared.contents.Contents.TheVariants.{Writable, ReadOnly, Emulated, Shared}
use Rattle.hv_body.specs.declared.live.Live.{Live}
use Rattle.hv_body.specs.declared.place.Answer.{Answer}
use Rattle.hv_body.specs.declared.place.Answer.TheVariants.{Answered, Denied, NoExec, InArea, NotHere}
use Rattle.hv_body.specs.declared.place.Place.{Place}
use Rattle.hv_emu.specs.Device.{DevState, uart, plic, timer, line_of, pins_of, is_serial}
use Rattle.hv_emu.specs.Device.{after_attach, after_reset, after_source, after_feed, after_tick}
use Rattle.hv_kinds.specs.declared.access.Direction.{Direction}
use Rattle.hv_kinds.specs.declared.access.Direction.TheVariants.{Read, Write}
use Rattle.hv_kinds.specs.declared.changes.SignalChanges.{SignalChanges}
use Rattle.hv_kinds.specs.declared.pins.Pins.{Pins}
use Rattle.hv_refusal.specs.declared.refusal.Refusal.{Refusal}
use Rattle.hv_refusal.specs.declared.refusal.Refusal.TheVariants as refusal
use Rattle.hv_region.specs.declared.window.Window.{Window}
use Rattle.hv_step.specs.declared.step.Access.{Access}
use Rattle.hv_step.specs.declared.step.Step.{Step}
use Rattle.hv_step.specs.declared.step.Step.TheVariants as step
use Rattle.hv_text.specs.declared.limits.TheConstants.{GUEST_VCPUS}
use Rattle.hv_rules.specs.Carry.{Carry}
use Rattle.hv_rules.specs.Windows.{Region, region_of, window_of, guest_place}

-- The contents of a region that is live, or nothing.
abbrev pub BodyValue : Type 0
BodyValue = Option (Live DevState)

-- The level of a body's interrupt line; an empty body's is low.
abbrev pub line_in : BodyValue → Bool
line_in body = shown line_of false body

-- The levels of the pins of a guest's VCPU that a body drives, by the VCPU's index.
abbrev pub pins_in : BodyValue → (index : ℕ) → Pins
pins_in body index = shown (λ device. pins_of device index) no_pins body

-- A level has changed.
abbrev pub has_turned : (before after : Bool) → Bool
has_turned before after = if before then not after else after

-- One of a VCPU's pins has changed.
abbrev pub have_turned : (before after : Pins) → Bool
have_turned before after =
    has_turned before.ext after.ext || has_turned before.soft after.soft || has_turned before.timer after.timer

-- The number of which these are the bits, the lowest first.
abbrev pub number_of_bits : List Bool → ℕ
number_of_bits [] = 0
number_of_bits (bit ∷ bits) = (if bit then 1 else 0) + 2 * number_of_bits bits

-- For each VCPU of a guest, whether a body drives other pins before and after.
abbrev pub changed_pins : (before after : BodyValue) → List Bool
changed_pins before after =
    map (λ index. have_turned (pins_in before index) (pins_in after index)) (range_with_len 0 GUEST_VCPUS)

-- What changed of a body's signals, before against after: its line, and the pins of each VCPU of the guest.
abbrev pub changes : (before after : BodyValue) → SignalChanges
changes before after = record {
  line = has_turned (line_in before) (line_in after);
  pins = number_of_bits (changed_pins before after);
}

-- No signal changes.
abbrev pub no_changes : SignalChanges
no_changes = record { line = false; pins = 0 }

-- The region that takes a region's interrupts, and the source there.
abbrev pub parent_of : BodyValue → Option (ℕ × ℕ)
parent_of body = option_and_then (λ live. live.plan.parent) body

-- The body of a region that is added, whose device is handed over and gets a context for each VCPU; the target of an
-- alias gets the alias's window.
abbrev pub built : Region → (device : Option DevState) → (target : Option (ℕ × ℕ)) → BodyValue → BodyValue
built region device None body =
    filled region.birth region.row region.plan (option_map (λ cold. after_attach cold region.vcpus) device)
built region device (Some target) body = with_window body (window_of region (Some target))

-- The body of a region that is dropped; the target of an alias loses the alias's window.
abbrev pub dropped : (row : ℕ) → (target : Option (ℕ × ℕ)) → BodyValue → BodyValue
dropped row None body = None
dropped row (Some target) body = without_window body row

-- What the body of a dropped region hands over, which the target of an alias doesn't.
abbrev pub unless_alias : {A : Type 0} → (target : Option (ℕ × ℕ)) → Option A → Option A
unless_alias None given = given
unless_alias (Some target) given = None

-- What a range of a region's bytes is: memory of its own, a part of an area from an offset on, or no memory.
pub data Range : Type 0 where
  memory : (bytes : List ℕ) → Range
  area : (number offset : ℕ) → Range
  no_memory : Range

-- A range of contents.
abbrev pub range_in : Contents DevState → (offset size : ℕ) → Range
range_in (Writable bytes) offset size = memory (slice_range bytes offset (offset + size))
range_in (ReadOnly bytes) offset size = memory (slice_range bytes offset (offset + size))
range_in (Emulated device) offset size = no_memory
range_in (Shared number start) offset size = area number (start + offset)

-- A range of a body; behind its end there is no memory.
abbrev pub range_of : BodyValue → (offset size : ℕ) → Range
range_of None offset size = no_memory
range_of (Some live) offset size =
    if nat_le (offset + size) live.plan.size then range_in live.contents offset size else no_memory

-- The area that a range is a part of, and the offset there.
abbrev pub shared_in : Range → Option (ℕ × ℕ)
shared_in (area number offset) = Some (number, offset)
shared_in range = None

-- A file is loaded into memory, and answered by how many bytes it has.
abbrev pub loaded_result : Range → (size : ℕ) → Result ℕ Refusal
loaded_result no_memory size = Err refusal.NotMemory
loaded_result range size = Ok size

-- A look at memory shows its bytes; those of an area the area shows.
abbrev pub ShowsMemory : Range → Reply → Type 0
ShowsMemory (memory bytes) r = r ≡ reply.Mem (Ok bytes)
ShowsMemory (area number offset) r = Unit {0}
ShowsMemory no_memory r = r ≡ reply.Mem (Err refusal.NotMemory)

-- The place of an access to an instruction's address.
abbrev pub place_of : (birth address size : ℕ) → Option Place
place_of birth address size =
    option_map (λ place. record { birth = birth; kind = place.0; addr = place.1; size = size }) (guest_place address)

-- What a body answers to a fetch of an instruction.
abbrev pub fetch_from : BodyValue → (birth pc : ℕ) → Answer
fetch_from body birth pc = option_map_or (fetch_answer body) (place_of birth pc 4) NotHere

-- What a body answers to a load or a store at a place.
abbrev pub access_answer : BodyValue → Direction → (value : ℕ) → Place → Answer
access_answer body Read value place = load_answer body place
access_answer body Write value place = store_answer body place value

-- What a load or a store at a place leaves.
abbrev pub access_leaves : BodyValue → Direction → (value : ℕ) → Place → BodyValue
access_leaves body Read value place = load_leaves body place
access_leaves body Write value place = store_leaves body place value

-- What a body answers to an instruction's access.
abbrev pub answer_to : BodyValue → Access → Answer
answer_to body s =
    option_map_or (access_answer body s.direction s.value) (place_of s.generation.birth s.address s.size) NotHere

-- What an instruction's access leaves.
abbrev pub left_by : BodyValue → Access → BodyValue
left_by body s =
    option_map_or (access_leaves body s.direction s.value) (place_of s.generation.birth s.address s.size) body

-- The area that is asked, and the offset there.
abbrev pub area_in : Answer → Option (ℕ × ℕ)
area_in (InArea number offset) = Some (number, offset)
area_in answer = None

-- The word that a reply shows.
abbrev pub word_of : Reply → Option ℕ
word_of (reply.Fetch (Some fetched)) = Some fetched.word
word_of r = None

-- A fetch is answered by a word or by nothing; an area that is asked answers for itself.
abbrev pub ShowsWord : Answer → Reply → Type 0
ShowsWord (Answered word) r = word_of r ≡ Some word
ShowsWord NoExec r = r ≡ reply.Fetch None
ShowsWord (InArea number offset) r = Unit {0}
ShowsWord answer r = ⊥

-- What a reply to an access shows.
abbrev pub accessed : (value : ℕ) → SignalChanges → Accessed
accessed value changed = record { value = value; changes = changed }

-- An access is answered by a value and by what changed, or it is denied; an area that is asked answers for itself.
abbrev pub ShowsAccess : Answer → (changed : SignalChanges) → Reply → Type 0
ShowsAccess (Answered value) changed r = r ≡ reply.Access (Some (accessed value changed))
ShowsAccess Denied changed r = r ≡ reply.Access None
ShowsAccess (InArea number offset) changed r = Unit {0}
ShowsAccess answer changed r = ⊥

-- What a serial port keeps of what it sent.
abbrev pub output_of : DevState → List ℕ
output_of (uart u) = u.output
output_of (plic p) = []
output_of (timer t) = []

-- What is given where bytes go in and out.
abbrev pub if_serial : {A : Type 0} → BodyValue → A → Result A Refusal
if_serial body given = if shown is_serial false body then Ok given else Err refusal.NotSerial

-- The body once bytes reached its device.
abbrev pub fed : (bytes : List ℕ) → BodyValue → BodyValue
fed bytes body = on_device (λ device. fold after_feed device bytes) body

-- A body is that of a guest with this birth.
abbrev pub is_born : (birth : ℕ) → BodyValue → Bool
is_born birth None = false
is_born birth (Some live) = live.birth == birth

-- The line of a row is what a sample shows of it, unless the parent is gone.
abbrev pub ShowsLevel : (level : Bool) → Reply → Type 0
ShowsLevel level (reply.Sample (Some sampled)) = sampled.level ≡ level
ShowsLevel level (reply.Sample None) = Unit {0}
ShowsLevel level r = ⊥

-- The body once its device takes a level at a source.
abbrev pub signalled : (source : ℕ) → (level : Bool) → BodyValue → BodyValue
signalled source level body = on_device (λ device. after_source device source level) body

-- The parent takes the level that a sample shows, unless it is gone.
abbrev pub TakesLevel : (here : Bool) → (source : ℕ) → BodyValue → Reply → Type 0
TakesLevel false source body r = r ≡ reply.Sample None
TakesLevel true source body (reply.Sample (Some sampled)) =
    sampled.changes ≡ changes body (signalled source sampled.level body)
TakesLevel true source body r = ⊥

-- The index in its guest of a VCPU with a number.
abbrev pub index_of : (vcpu : ℕ) → ℕ
index_of vcpu = (vcpu - 1) % GUEST_VCPUS

-- The pins that a row drives are what a pin step shows, unless the VCPU's guest is gone.
abbrev pub ShowsPins : (pins : Pins) → Reply → Type 0
ShowsPins pins (reply.Pin (Some pinned)) = pinned.pins ≡ pins
ShowsPins pins (reply.Pin None) = Unit {0}
ShowsPins pins r = ⊥

-- A body agrees to a step where the reply shows what its contents answer and which of its signals change; where they
-- can, the parent of its row is handed over. Of a sample the row's body shows the level, and the parent's what changes.
abbrev pub BodyAgrees : (row : ℕ) → BodyValue → Step → Reply → Carry → Type 0
BodyAgrees row body (step.Add s) r c =
    IsSomeAnd (region_of s.generation c.row c.plan) (λ region.
    (r ≡ reply.Add (Ok (changes body (built region c.device c.target body)))) × (c.parent ≡ region.plan.parent))
BodyAgrees row body (step.Drop s) r c =
    IsSomeAnd c.row (λ gone.
    (r ≡ reply.Drop (Ok (changes body (dropped gone c.target body))))
    × (c.device ≡ unless_alias c.target (device_of body))
    × (c.parent ≡ unless_alias c.target (parent_of body)))
BodyAgrees row body (step.Load s) r c =
    IsSomeAnd c.window (λ window. IsSomeAnd c.bytes (λ bytes.
    let range = range_of body (offset_in window s.address) (length bytes) in
    (r ≡ reply.Load (loaded_result range (length bytes))) × (c.area ≡ shared_in range)))
BodyAgrees row body (step.Mem s) r c =
    IsSomeAnd c.window (λ window.
    let range = range_of body (offset_in window s.address) s.count in
    ShowsMemory range r × (c.area ≡ shared_in range))
BodyAgrees row body (step.Devreset s) r c =
    (r ≡ reply.Devreset (Ok (changes body (on_device after_reset body)))) × (c.parent ≡ parent_of body)
BodyAgrees row body (step.Feed s) r c =
    (r ≡ reply.Feed (if_serial body (changes body (fed s.bytes body)))) × (c.parent ≡ parent_of body)
BodyAgrees row body (step.Output s) r c = r ≡ reply.Output (if_serial body (shown output_of [] body))
BodyAgrees row body (step.Tick s) r c =
    (r ≡ reply.Tick (Some (changes body (on_device after_tick body)))) × (c.parent ≡ parent_of body)
BodyAgrees row body (step.Fetch s) r c =
    IsSomeAnd c.pc (λ pc.
    let answer = fetch_from body s.generation.birth pc in
    ShowsWord answer r × (c.area ≡ area_in answer))
BodyAgrees row body (step.Access s) r c =
    ShowsAccess (answer_to body s) (changes body (left_by body s)) r
    × (c.area ≡ area_in (answer_to body s))
    × (c.parent ≡ parent_of body)
BodyAgrees row body (step.Sample s) r c =
    MatchBool (row == s.row) (ShowsLevel (is_born s.generation.birth body && line_in body) r) (Unit {0})
    × MatchBool (row == s.parent) (TakesLevel (is_born s.generation.birth body) s.source body r) (Unit {0})
BodyAgrees row body (step.Pin s) r c =
    ShowsPins (if is_born s.generation.birth body then pins_in body (index_of s.vcpu) else no_pins) r
BodyAgrees row body _ r c = ⊥

-- The body with a file's bytes in the range that a window shows.
abbrev pub with_file : (address : ℕ) → Option Window → (file : Option (List ℕ)) → BodyValue → BodyValue
with_file address (Some window) (Some bytes) body = with_stored body (offset_in window address) bytes
with_file address window file body = body

-- What an event leaves of a body: a step that is refused or gone leaves it as it was, and a sample leaves the row's.
abbrev pub body_after : (row : ℕ) → BodyValue → Step → Reply → Carry → BodyValue
body_after row body (step.Add s) (reply.Add (Ok changed)) c =
    option_map_or (λ region. built region c.device c.target body) (region_of s.generation c.row c.plan) body
body_after row body (step.Drop s) (reply.Drop (Ok changed)) c =
    option_map_or (λ gone. dropped gone c.target body) c.row body
body_after row body (step.Load s) (reply.Load (Ok size)) c = with_file s.address c.window c.bytes body
body_after row body (step.Devreset s) (reply.Devreset (Ok changed)) c = on_device after_reset body
body_after row body (step.Feed s) (reply.Feed (Ok changed)) c = fed s.bytes body
body_after row body (step.Tick s) (reply.Tick (Some changed)) c = on_device after_tick body
body_after row body (step.Access s) r c = left_by body s
body_after row body (step.Sample s) (reply.Sample (Some sampled)) c =
    if row == s.parent then signalled s.source sampled.level body else body
body_after row body _ r c = body
