-- A line of a terminal: which steps it has, where it is among them, and where a reply leaves it.
use Rattle.std.specs.Prelude.{ℕ, zero, suc, ◌+◌, Bool, true, false, not, ◌&&◌, if◌then◌else◌, Option, None, Some, Ok, List, [], ◌∷◌, ◌++◌, length, map, replicate, slice_get}
use Rattle.hv_answer.specs.declared.reply.Reply.{Reply}
use Rattle.hv_answer.specs.declared.reply.Reply.TheVariants as reply
use Rattle.hv_kinds.specs.declared.generation.Generation.{Generation}
use Rattle.hv_kinds.specs.declared.stage.Stage.{Stage}
use Rattle.hv_kinds.specs.declared.stage.Stage.TheVariants.{Making, Made, Ending}
use Rattle.hv_region.specs.declared.plan.Form.{Form}
use Rattle.hv_region.specs.declared.plan.Form.TheVariants.{Device, Alias}
use Rattle.hv_region.specs.declared.plan.RegionPlan.{RegionPlan}
use Rattle.hv_refusal.specs.declared.refusal.Refusal.{Refusal}
use Rattle.hv_region.specs.declared.plan.GuestPlan.{GuestPlan}
use Rattle.hv_step.specs.declared.step.ByGuest.{ByGuest}
use Rattle.hv_step.specs.declared.step.Step.{Step}
use Rattle.hv_step.specs.declared.step.Step.TheVariants as step
use Rattle.hv_text.specs.declared.limits.TheConstants.{VCPUS}
use Rattle.hv_rules.specs.Carry.{Carry}
use Rattle.hv_rules.specs.Owed.{vcpu_of}
use Rattle.hv_rules.specs.Refused.{refusal_of, directory_refusal_of}

-- What is asked of each VCPU of a guest.
pub data Change : Type 0 where
  kick : Change
  resume : Change
  pause : Change
  halt : Change
  reset : Change

-- What a line of several steps asks for: rests; a look at each VCPU of the board; the life or the end of a guest; or a
-- change of each of its VCPUs.
pub data Asked : Type 0 where
  rests : (count : ℕ) → Asked
  looks : Asked
  create : (name : List ℕ) → Asked
  destroy : (name : List ℕ) → Asked
  each_vcpu : Change → (name : List ℕ) → Asked

-- One step of a line, with the number of its region's row or of its VCPU where it has one.
pub data Ask : Type 0 where
  rest : Ask
  look : (vcpu : ℕ) → Ask
  claim : Ask
  turn : (from : Stage) → (to : Option Stage) → Ask
  add : (row : ℕ) → Ask
  drop : Stage → (row : ℕ) → Ask
  add_vcpu : (index : ℕ) → Ask
  drop_vcpu : (index : ℕ) → Ask
  change : Change → (index : ℕ) → Ask
  reset_device : (row : ℕ) → Ask

-- A step for each number below a count.
abbrev pub each : (ℕ → Ask) → (count : ℕ) → List Ask
each ask zero = []
each ask (suc n) = each ask n ++ ask n ∷ []

abbrev pub is_alias : Form → Bool
is_alias (Alias address) = true
is_alias _ = false

abbrev pub is_device : Form → Bool
is_device (Device names) = true
is_device _ = false

-- The regions that are built when a guest is created, aliases by themselves; those that it owns; and its devices.
abbrev pub is_built : RegionPlan → Bool
is_built region = not region.detached && not (is_alias region.form)

abbrev pub is_built_alias : RegionPlan → Bool
is_built_alias region = not region.detached && is_alias region.form

abbrev pub is_owned : RegionPlan → Bool
is_owned region = not (is_alias region.form)

abbrev pub has_device : RegionPlan → Bool
has_device region = is_device region.form

-- A step for each region that is chosen, by row from a number on.
abbrev pub of_rows : (ℕ → Ask) → (RegionPlan → Bool) → (row : ℕ) → List RegionPlan → List Ask
of_rows ask chosen row [] = []
of_rows ask chosen row (region ∷ regions) =
    (if chosen region then ask row ∷ [] else []) ++ of_rows ask chosen (row + 1) regions

-- The steps of a line if nothing is refused, for a guest with so many VCPUs and these regions.
abbrev pub steps_of : Asked → (vcpus : ℕ) → List RegionPlan → List Ask
steps_of (rests count) vcpus regions = replicate count rest
steps_of looks vcpus regions = each look VCPUS
steps_of (create name) vcpus regions =
    claim ∷ []
    ++ of_rows add is_built 0 regions
    ++ of_rows add is_built_alias 0 regions
    ++ each add_vcpu vcpus
    ++ turn Making (Some Made) ∷ []
steps_of (destroy name) vcpus regions =
    turn Made (Some Ending) ∷ []
    ++ each drop_vcpu vcpus
    ++ of_rows (drop Ending) is_owned 0 regions
    ++ turn Ending None ∷ []
steps_of (each_vcpu reset name) vcpus regions = each (change reset) vcpus ++ of_rows reset_device has_device 0 regions
steps_of (each_vcpu asked name) vcpus regions = each (change asked) vcpus

-- Where a line is among its steps.
pub data Place : Type 0 where
  -- on its way: the steps made, the last one first, and those still to make
  on : (made todo : List Ask) → Place
  -- on its way back, for a refusal: the steps still to undo, the last one first
  back : (why : Refusal) → (made : List Ask) → Place
  -- ended by a refusal
  over : (why : Refusal) → Place

-- A line: what it asks for, the regions of its guest's plan, slot and birth of the guest that it made or ends, and
-- where it is.
pub record LineState : Type 0 where
  pub asked : Asked
  pub regions : List RegionPlan
  pub guest : Option (ℕ × ℕ)
  pub place : Place

-- A line that is begun, of a guest with so many VCPUs and these regions.
abbrev pub begun : Asked → (vcpus : ℕ) → List RegionPlan → LineState
begun asked vcpus regions = record {
  asked = asked;
  regions = regions;
  guest = None;
  place = on [] (steps_of asked vcpus regions);
}

-- A line of a guest by its plan; where a name has no good plan, a change of each VCPU has the step of one, which the
-- directory refuses.
abbrev pub begun_for : Asked → Option GuestPlan → LineState
begun_for asked None = begun asked 1 []
begun_for asked (Some plan) = begun asked (length plan.vcpus.items) plan.regions.items

-- Why a line ends refused, if it does: for the refusal that ended it or turned it back.
abbrev pub why_refused : Place → Option Refusal
why_refused (on made todo) = None
why_refused (back why made) = Some why
why_refused (over why) = Some why

-- On its way back a line drops the regions that it added, and gives up its claim, which is all else that can stand before
-- them.
abbrev pub undoing : Ask → Ask
undoing (add row) = drop Making row
undoing _ = turn Making None

-- What is left of a line, if nothing more turns it back or ends it.
abbrev pub left : Place → List Ask
left (on made todo) = todo
left (back why made) = map undoing made
left (over why) = []

abbrev pub first : List Ask → Option Ask
first [] = None
first (ask ∷ more) = Some ask

-- What a reply says of a line: it goes on, it turns back, or it ends.
pub data Verdict : Type 0 where
  goes_on : Verdict
  turns_back : (why : Refusal) → Verdict
  ends : (why : Refusal) → Verdict

-- A refusal ends a line, or turns it back.
abbrev pub ends_for : Option Refusal → Verdict
ends_for None = goes_on
ends_for (Some why) = ends why

abbrev pub turns_for : Option Refusal → Verdict
turns_for None = goes_on
turns_for (Some why) = turns_back why

-- A line turns back where an addition is refused, and ends where the directory refuses a later step by guest; after
-- every other reply it goes on.
abbrev pub later_verdict : Ask → Reply → Verdict
later_verdict (add row) r = turns_for (refusal_of r)
later_verdict (change asked index) r = ends_for (directory_refusal_of r)
later_verdict (reset_device row) r = ends_for (directory_refusal_of r)
later_verdict _ r = goes_on

-- A line ends where its first step is refused.
abbrev pub verdict : (made : List Ask) → Ask → Reply → Verdict
verdict [] ask r = ends_for (refusal_of r)
verdict (a ∷ made) ask r = later_verdict ask r

-- Where the verdict on the step that was next leaves a line.
abbrev pub moved : (made : List Ask) → Ask → (todo : List Ask) → Verdict → Place
moved made ask todo goes_on = on (ask ∷ made) todo
moved made ask todo (turns_back why) = back why made
moved made ask todo (ends why) = over why

abbrev pub place_after : Place → Reply → Place
place_after (on made []) r = on made []
place_after (on made (ask ∷ todo)) r = moved made ask todo (verdict made ask r)
place_after (back why []) r = back why []
place_after (back why (ask ∷ made)) r = back why made
place_after (over why) r = over why

-- The guest that a line has learnt: a claim's reply tells it, and a stage that is turned hands it over.
abbrev pub learnt : Option (ℕ × ℕ) → Reply → Carry → Option (ℕ × ℕ)
learnt guest (reply.Name (Ok claimed)) c = Some (claimed.slot, claimed.birth)
learnt guest (reply.Stage (Ok done)) c = c.guest
learnt guest r c = guest

-- A reply leaves a line one step on, with what it has learnt.
abbrev pub line_after : LineState → Reply → Carry → LineState
line_after line r c = record line { guest = learnt line.guest r c; place = place_after line.place r }

-- The guest that a line names.
abbrev pub guest_name : Asked → List ℕ
guest_name (create name) = name
guest_name (destroy name) = name
guest_name (each_vcpu asked name) = name
guest_name _ = []

abbrev pub name_in : Option RegionPlan → List ℕ
name_in None = []
name_in (Some region) = region.name

abbrev pub region_name : LineState → (row : ℕ) → List ℕ
region_name line row = name_in (slice_get line.regions row)

-- The number of a guest's VCPU on the board, and 0 where the directory gives no guest.
abbrev pub given_vcpu : Option Generation → (index : ℕ) → ℕ
given_vcpu None index = 0
given_vcpu (Some generation) index = vcpu_of generation.slot index

abbrev pub own_vcpu : Option (ℕ × ℕ) → (index : ℕ) → ℕ
own_vcpu None index = 0
own_vcpu (Some guest) index = vcpu_of guest.0 index

abbrev pub own_birth : Option (ℕ × ℕ) → ℕ
own_birth None = 0
own_birth (Some guest) = guest.1

-- A change of a VCPU by its guest's name.
abbrev pub change_step : Change → (vcpu : ℕ) → ByGuest → Step
change_step kick vcpu by = step.Kick (record { vcpu = vcpu; guest = Some by })
change_step resume vcpu by = step.Resume (record { vcpu = vcpu; guest = Some by })
change_step pause vcpu by = step.Pause (record { vcpu = vcpu; guest = Some by })
change_step halt vcpu by = step.Halt (record { vcpu = vcpu; guest = Some by })
change_step reset vcpu by = step.Reset (record { vcpu = vcpu; guest = Some by })

-- The step that is asked, where the directory gives this generation.
abbrev pub step_of : LineState → (given : Option Generation) → Ask → Step
step_of line given rest = step.Rest (record {})
step_of line given (look vcpu) = step.Look (record { vcpu = vcpu })
step_of line given claim = step.Name (record { name = guest_name line.asked })
step_of line given (turn from to) = step.Stage (record { name = guest_name line.asked; from = from; to = to })
step_of line given (add row) =
    step.Add (record {
      name = guest_name line.asked;
      region = region_name line row;
      stage = Making;
      generation = given;
    })
step_of line given (drop stage row) =
    step.Drop (record {
      name = guest_name line.asked;
      region = region_name line row;
      stage = stage;
      generation = given;
    })
step_of line given (add_vcpu index) =
    step.Vadd (record { vcpu = own_vcpu line.guest index; birth = own_birth line.guest })
step_of line given (drop_vcpu index) = step.Vdrop (record { vcpu = own_vcpu line.guest index })
step_of line given (change asked index) =
    change_step asked (given_vcpu given index) (record { name = guest_name line.asked; generation = given })
step_of line given (reset_device row) =
    step.Devreset (record { name = guest_name line.asked; region = region_name line row; generation = given })

abbrev pub step_for : LineState → (given : Option Generation) → Option Ask → Option Step
step_for line given None = None
step_for line given (Some ask) = Some (step_of line given ask)

-- The next step of a line, where the directory gives this generation; nothing where the line is over.
abbrev pub next_step : LineState → (given : Option Generation) → Option Step
next_step line given = step_for line given (first (left line.place))
