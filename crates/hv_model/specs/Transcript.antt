-- What a terminal shows: each line that it begins, what comes of it, and whether it was done or why not.
use Rattle.std.specs.Prelude.{◌≡◌, ℕ, ◌+◌, ◌*◌, ◌/◌, ◌-◌, ◌==◌, not, if◌then◌else◌, Option, None, Some, Result, Ok, Err, List, [], ◌∷◌, ◌++◌, codes, drop, filter, length, slice_get, slice_index, take}
use Rattle.std.specs.Fmt.{decimal}
use Rattle.std.specs.List.{flat_map, range_with_len}
use Rattle.hv_text.specs.Number.{padded_hex}
use Rattle.hv_data.specs.Text.{address_text, address_type_text, stage_text, state_text}
use Rattle.hv_dtree.specs.declared.node.Node.{Node}
use Rattle.hv_dts.specs.Printed.{tree_text}
use Rattle.hv_dts.specs.Reading.{IsSourceOf}
use Rattle.hv_event.specs.declared.event.Event.{Event}
use Rattle.hv_kinds.specs.declared.state.State.{State}
use Rattle.hv_kinds.specs.declared.state.State.TheVariants.{Unknown}
use Rattle.hv_listing.specs.declared.guest.ListedGuest.{ListedGuest}
use Rattle.hv_listing.specs.declared.window.ListedWindow.{ListedWindow}
use Rattle.hv_look.specs.declared.look.Csrs.{Csrs}
use Rattle.hv_look.specs.declared.look.Look.{Look}
use Rattle.hv_region.specs.declared.plan.RegionPlan.{RegionPlan}
use Rattle.hv_refusal.specs.declared.refusal.Refusal.{Refusal}
use Rattle.hv_refusal.specs.Refusal.{refusal_text}
use Rattle.hv_answer.specs.declared.reply.Reply.{Reply}
use Rattle.hv_answer.specs.declared.reply.Reply.TheVariants as reply
use Rattle.hv_rules.specs.Carry.{nothing}
use Rattle.hv_rules.specs.Line.{Asked, create, each_vcpu, LineState, line_after, name_in, why_refused}
use Rattle.hv_step.specs.declared.step.Step.{Step}
use Rattle.hv_step.specs.declared.step.Step.TheVariants as step
use Rattle.hv_model.specs.Plans.{Planned, regions_of, vcpus_of}
use Rattle.hv_model.specs.Session.{Session, Begun, begun, Task, makes, goes, tells, Present, present, kept, session_after}
use Rattle.hv_model.specs.Terminal.{is_interrupt, refusal_of}

-- A line is a text and a line feed.
abbrev pub line : List ℕ → List ℕ
line text = text ++ 10 ∷ []

-- Bytes are shown as they are where the last one is a line feed, and else with a line feed behind them; so no bytes
-- are shown as an empty line.
unfoldable pub shown : List ℕ → List ℕ
shown bytes = if slice_index bytes (length bytes - 1) == 10 then bytes else bytes ++ 10 ∷ []

-- Each name is shown on a line of its own.
abbrev pub names_shown : List (List ℕ) → List ℕ
names_shown names = flat_map line names

-- A command that is refused shows why.
abbrev pub refused_shown : Refusal → List ℕ
refused_shown why = line (codes "< refused " ++ refusal_text why)

-- A command that is done shows what it gives, and then that it is done.
abbrev pub done_shown : List ℕ → List ℕ
done_shown given = given ++ line (codes "< ok")

abbrev pub answer_shown : {A : Type 0} → (A → List ℕ) → Result A Refusal → List ℕ
answer_shown given (Ok a) = done_shown (given a)
answer_shown given (Err why) = refused_shown why

-- A step that gives nothing to show shows nothing.
abbrev pub nothing_shown : {A : Type 0} → A → List ℕ
nothing_shown a = []

-- A text is assembled to so many words, and a file is loaded that has so many bytes.
abbrev pub words_shown : ℕ → List ℕ
words_shown count = line (decimal count ++ codes " words")

abbrev pub bytes_shown : ℕ → List ℕ
bytes_shown count = line (decimal count ++ codes " bytes")

-- A guest that is listed shows its slot, its name and its stage.
abbrev pub guest_shown : ListedGuest → List ℕ
guest_shown guest = line (decimal guest.slot ++ 32 ∷ guest.name ++ 32 ∷ stage_text guest.stage)

abbrev pub guests_shown : List ListedGuest → List ℕ
guests_shown guests = flat_map guest_shown guests

-- The name of a region in a row.
abbrev pub region_name : List RegionPlan → (row : ℕ) → List ℕ
region_name regions row = name_in (slice_get regions row)

-- An alias shows the region for which it stands, and where it begins there.
abbrev pub target_shown : List RegionPlan → ListedWindow → List ℕ
target_shown regions window =
    if window.owner == window.target then []
    else codes " of " ++ region_name regions window.target ++ codes "+" ++ address_text window.offset

-- A window that is listed shows its region's name, its type, its first address and its size.
abbrev pub window_shown : List RegionPlan → ListedWindow → List ℕ
window_shown regions window =
    line (region_name regions window.owner
    ++ 32 ∷ address_type_text window.address_type
    ++ 32 ∷ address_text window.base
    ++ 32 ∷ address_text window.size
    ++ target_shown regions window)

abbrev pub windows_shown : List RegionPlan → List ListedWindow → List ℕ
windows_shown regions windows = flat_map (window_shown regions) windows

-- Sixteen bytes of memory stand on a line, behind the address of the first.
abbrev pub bytes_a_line : ℕ
bytes_a_line = 16

abbrev pub byte_shown : ℕ → List ℕ
byte_shown byte = 32 ∷ padded_hex byte 2

abbrev pub memory_line : (address : ℕ) → List ℕ → (number : ℕ) → List ℕ
memory_line address bytes number =
    line (padded_hex (address + bytes_a_line * number) 16
    ++ codes ":"
    ++ flat_map byte_shown (take bytes_a_line (drop (bytes_a_line * number) bytes)))

abbrev pub memory_shown : (address : ℕ) → List ℕ → List ℕ
memory_shown address bytes =
    flat_map (memory_line address bytes) (range_with_len 0 ((length bytes + (bytes_a_line - 1)) / bytes_a_line))

-- What a serial port sent is shown as a file is, and nothing where it sent nothing.
abbrev pub output_shown : List ℕ → List ℕ
output_shown [] = []
output_shown (b ∷ bytes) = shown (b ∷ bytes)

-- A register shows its name and sixteen digits.
abbrev pub register_shown : (name : List ℕ) → (value : ℕ) → List ℕ
register_shown name value = line (name ++ 32 ∷ padded_hex value 16)

abbrev pub unless_zero : (name : List ℕ) → (value : ℕ) → List ℕ
unless_zero name value = if value == 0 then [] else register_shown name value

-- The registers that aren't 0, by number.
abbrev pub registers_shown : (number : ℕ) → List ℕ → List ℕ
registers_shown number [] = []
registers_shown number (value ∷ values) =
    unless_zero (codes "x" ++ decimal number) value ++ registers_shown (number + 1) values

abbrev pub csrs_shown : Csrs → List ℕ
csrs_shown csrs =
    unless_zero (codes "mstatus") csrs.mstatus
    ++ unless_zero (codes "mie") csrs.mie
    ++ unless_zero (codes "mtvec") csrs.mtvec
    ++ unless_zero (codes "mscratch") csrs.mscratch
    ++ unless_zero (codes "mepc") csrs.mepc
    ++ unless_zero (codes "mcause") csrs.mcause
    ++ unless_zero (codes "mtval") csrs.mtval

-- A VCPU that is dumped shows its state, its plan and its registers, unless it is unknown.
abbrev pub dump_shown : (vcpu : ℕ) → State → Look → List ℕ
dump_shown vcpu Unknown look = line (codes "vcpu " ++ decimal vcpu ++ codes " Unknown")
dump_shown vcpu state look =
    line (codes "vcpu "
    ++ decimal vcpu
    ++ 32 ∷ state_text state
    ++ codes " priority "
    ++ decimal look.priority
    ++ codes " slice "
    ++ decimal look.slice)
    ++ register_shown (codes "pc") look.registers.pc
    ++ registers_shown 1 look.registers.x
    ++ csrs_shown look.registers.csrs

-- A VCPU in a list shows its state, unless it is unknown.
abbrev pub state_shown : (vcpu : ℕ) → State → List ℕ
state_shown vcpu Unknown = []
state_shown vcpu state = line (decimal vcpu ++ 32 ∷ state_text state)

-- A device tree source shows its tree, printed anew, and then that the command is done.
pub record ShowsTree (source text : List ℕ) : Type 0 where
  pub tree : Node
  pub stands : IsSourceOf source tree
  pub text_is : text ≡ tree_text tree ++ line (codes "< ok")

-- What a reading of a source shows.
abbrev pub ShowsSource : Result (List ℕ) Refusal → List ℕ → Type 0
ShowsSource (Ok source) text = ShowsTree source text
ShowsSource (Err why) text = text ≡ refused_shown why

-- What the reply to a command of one step shows.
abbrev pub ShowsReply : Reply → List ℕ → Type 0
ShowsReply (reply.Bad why) text = text ≡ refused_shown why
ShowsReply (reply.Ls r) text = text ≡ answer_shown names_shown r
ShowsReply (reply.Cat r) text = text ≡ answer_shown shown r
ShowsReply (reply.Dts r) text = ShowsSource r text
ShowsReply (reply.Run r) text = text ≡ answer_shown nothing_shown r
ShowsReply (reply.Mkdir r) text = text ≡ answer_shown nothing_shown r
ShowsReply (reply.Rm r) text = text ≡ answer_shown nothing_shown r
ShowsReply (reply.Write r) text = text ≡ answer_shown nothing_shown r
ShowsReply (reply.Asm r) text = text ≡ answer_shown words_shown r
ShowsReply (reply.Guests guests) text = text ≡ done_shown (guests_shown guests)
ShowsReply (reply.Add r) text = text ≡ answer_shown nothing_shown r
ShowsReply (reply.Drop r) text = text ≡ answer_shown nothing_shown r
ShowsReply (reply.Load r) text = text ≡ answer_shown bytes_shown r
ShowsReply (reply.Feed r) text = text ≡ answer_shown nothing_shown r
ShowsReply (reply.Output r) text = text ≡ answer_shown output_shown r
ShowsReply (reply.Kick r) text = text ≡ answer_shown nothing_shown r
ShowsReply (reply.Resume r) text = text ≡ answer_shown nothing_shown r
ShowsReply (reply.Pause r) text = text ≡ answer_shown nothing_shown r
ShowsReply (reply.Halt r) text = text ≡ answer_shown nothing_shown r
ShowsReply (reply.Reset r) text = text ≡ answer_shown nothing_shown r
ShowsReply r text = ⊥

-- The same with what the command itself says: of which guest windows are listed, from where on memory is shown, and
-- which VCPU is dumped.
abbrev pub ShowsStep : List Planned → Step → Reply → List ℕ → Type 0
ShowsStep plans (step.Regions s) (reply.Regions r) text = text ≡ answer_shown (windows_shown (regions_of plans s.name)) r
ShowsStep plans (step.Mem s) (reply.Mem r) text = text ≡ answer_shown (memory_shown s.address) r
ShowsStep plans (step.Look s) (reply.Look look) text = text ≡ done_shown (dump_shown s.vcpu look.state look)
ShowsStep plans s r text = ShowsReply r text

-- A line of several steps shows each VCPU at which it looks.
abbrev pub look_shown : Step → Reply → List ℕ
look_shown (step.Look s) (reply.Look look) = state_shown s.vcpu look.state
look_shown s r = []

abbrev pub slot_shown : Option (ℕ × ℕ) → List ℕ
slot_shown None = []
slot_shown (Some guest) = line (codes "slot " ++ decimal guest.0)

-- What a line gives at its end: the slot of the guest that it made, or how many of a guest's VCPUs it changed.
abbrev pub line_shown : List Planned → Asked → (guest : Option (ℕ × ℕ)) → (changed : ℕ) → List ℕ
line_shown plans (create name) guest changed = slot_shown guest
line_shown plans (each_vcpu change name) guest changed =
    line (decimal changed ++ codes " of " ++ decimal (length (vcpus_of plans name)))
line_shown plans asked guest changed = []

-- A line ends done, or refused for the first refusal that ended it or turned it back.
abbrev pub ended_shown : (why : Option Refusal) → List ℕ → List ℕ
ended_shown None given = done_shown given
ended_shown (Some why) given = refused_shown why

-- A line that has steps left doesn't show its end.
abbrev pub end_shown : Option LineState → List ℕ → List ℕ
end_shown None ended = ended
end_shown (Some line) ended = []

-- A change of a VCPU that is made counts.
abbrev pub counted : {A : Type 0} → Result A Refusal → ℕ
counted (Ok done) = 1
counted (Err why) = 0

abbrev pub changed_by : Reply → ℕ
changed_by (reply.Kick r) = counted r
changed_by (reply.Resume r) = counted r
changed_by (reply.Pause r) = counted r
changed_by (reply.Halt r) = counted r
changed_by (reply.Reset r) = counted r
changed_by r = 0

-- What is told of a terminal so far: what its scripts have come to, and how many VCPUs its present line changed.
pub record Telling : Type 0 where
  pub session : Session
  pub changed : ℕ

abbrev pub while_left : Option LineState → (changed : ℕ) → ℕ
while_left None changed = 0
while_left (Some line) changed = changed

-- What is told from then on. What a step hands over decides which VCPUs a line names next, and not what it shows.
abbrev pub told_after : List Planned → Telling → Event → Telling
told_after plans t e =
    let session = session_after plans t.session e.reply nothing in
    record { session = session; changed = while_left session.line (t.changed + changed_by e.reply) }

-- A line that is begun shows itself.
abbrev pub begin_shown : Option LineState → Option Begun → List ℕ
begin_shown (Some l) b = []
begin_shown None None = []
begin_shown None (Some b) = line (codes "> " ++ b.line)

-- What a step of a line shows, given how many VCPUs the line changed, this one among them; the guest that the line made
-- is the one that it knew before its last step.
abbrev pub going_shown : List Planned → LineState → (changed : ℕ) → Step → Reply → List ℕ
going_shown plans l changed s r =
    look_shown s r
    ++ end_shown (kept (line_after l r nothing))
    (ended_shown (why_refused (line_after l r nothing).place) (line_shown plans l.asked l.guest changed))

-- What a step shows of its task.
abbrev pub ShowsTask : List Planned → Task → (changed : ℕ) → Step → Reply → List ℕ → Type 0
ShowsTask plans (makes asked) changed s r text = ShowsStep plans s r text
ShowsTask plans (goes l) changed s r text = text ≡ going_shown plans l changed s r
ShowsTask plans (tells l why) changed s r text = text ≡ refused_shown (refusal_of why)

abbrev pub ShowsPresent : List Planned → Option Present → (changed : ℕ) → Step → Reply → List ℕ → Type 0
ShowsPresent plans None changed s r text = ⊥
ShowsPresent plans (Some p) changed s r text = ShowsTask plans p.task changed s r text

-- What an event of a terminal shows.
pub record ShowsEvent (plans : List Planned) (t : Telling) (e : Event) (text : List ℕ) : Type 0 where
  pub behind : List ℕ
  pub shows : ShowsPresent plans (present plans t.session) (t.changed + changed_by e.reply) e.step e.reply behind
  pub text_is : text ≡ begin_shown t.session.line (begun t.session) ++ behind

-- A terminal's transcript is what its events show, one after the other.
abbrev pub IsTranscript : List Planned → Telling → List Event → List ℕ → Type 0
IsTranscript plans t [] text = text ≡ []
IsTranscript plans t (e ∷ es) text =
    (here later : List ℕ) × (text ≡ here ++ later) × ShowsEvent plans t e here
    × IsTranscript plans (told_after plans t e) es later

-- Of events those that a terminal's commands ask for.
abbrev pub asked_among : List Event → List Event
asked_among events = filter (λ e. not (is_interrupt e.step)) events
