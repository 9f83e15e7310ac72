-- A terminal's program: it makes the steps that it owes, and else those of the commands of its scripts, line after line.
use Rattle.std.specs.Prelude.{◌≡◌, ◌≢◌, ℕ, ◌+◌, Bool, true, false, nat_le, if◌then◌else◌, Option, None, Some, Result, Ok, Err, List, [], ◌∷◌, ◌++◌, length, slice_get}
use Rattle.std.specs.Option.{option_map}
use Rattle.hv_text.specs.declared.limits.TheConstants.{OPEN_SCRIPTS, MOST_LINES}
use Rattle.hv_words.specs.declared.refusal.WordsRefusal.{WordsRefusal}
use Rattle.hv_words.specs.declared.refusal.WordsRefusal.TheVariants as words
use Rattle.hv_kinds.specs.declared.changes.SignalChanges.{SignalChanges}
use Rattle.hv_kinds.specs.declared.generation.Generation.{Generation}
use Rattle.hv_kinds.specs.declared.stage.Stage.{Stage}
use Rattle.hv_kinds.specs.declared.stage.Stage.TheVariants.{Made}
use Rattle.hv_region.specs.declared.plan.RegionPlan.{RegionPlan}
use Rattle.hv_region.specs.declared.plan.VcpuPlan.{VcpuPlan}
use Rattle.hv_step.specs.declared.step.Step.{Step}
use Rattle.hv_step.specs.declared.step.Step.TheVariants as step
use Rattle.hv_answer.specs.declared.reply.Reply.{Reply}
use Rattle.hv_answer.specs.declared.reply.Reply.TheVariants as reply
use Rattle.hv_refusal.specs.declared.refusal.Refusal.{Refusal}
use Rattle.hv_refusal.specs.declared.refusal.Refusal.TheVariants as refusal
use Rattle.hv_rules.specs.Body.{index_of}
use Rattle.hv_rules.specs.Line.{LineState, guest_name, has_device, next_step}
use Rattle.hv_rules.specs.Owed.{owed_for, child_samples}
use Rattle.hv_model.specs.Entry.{Entry, Carry, handed_over}
use Rattle.hv_model.specs.Plans.{Planned, planned, refusal_for, vcpus_of, row_of, region_at, region_of, regions_of}
use Rattle.hv_model.specs.Session.{Session, Present, Task, makes, goes, tells, present, scripts_of, session_after, HasBooted, HasEnded}
use Rattle.hv_model.specs.Shown.{shown_in, showing}

-- What a terminal keeps.
pub record TerminalState : Type 0 where
  -- how many events it made
  pub count : ℕ
  -- the interrupt steps that it owes, the next one first
  pub owed : List Step
  pub session : Session
  -- the guests of the host tree
  pub plans : List Planned

-- A script that may be opened beside the others is too long exactly where its lines, with those of all scripts that the
-- terminal opened, are more than a terminal's scripts may have; the first argument says that they fit.
abbrev pub LengthAnswers : (fits : Bool) → Result (List ℕ) Refusal → Type 0
LengthAnswers true r = (r ≢ Err refusal.TooDeep) × (r ≢ Err refusal.TooLong)
LengthAnswers false r = r ≡ Err refusal.TooLong

-- What the terminal says of the reply to a run: it is TooDeep exactly where as many scripts are open as a terminal may
-- have, as the first argument says; else the length decides, where a script was found with its number of lines.
abbrev pub RunAnswers : (full : Bool) → (lines : ℕ) → (found : Option ℕ) → Result (List ℕ) Refusal → Type 0
RunAnswers true lines found r = r ≡ Err refusal.TooDeep
RunAnswers false lines None r = r ≢ Err refusal.TooDeep
RunAnswers false lines (Some n) r = LengthAnswers (nat_le (lines + n) MOST_LINES) r

-- What the terminal says of the one step of a command: whether a script may be run, and the row and the plan that it
-- hands over of a region; the replies are the components' to decide.
abbrev pub Asks : List Planned → Present → (lines : ℕ) → Step → Reply → Carry → Type 0
Asks plans p lines (step.Run s) (reply.Run r) c =
    RunAnswers (nat_le OPEN_SCRIPTS (length (scripts_of p))) lines c.lines r
Asks plans p lines (step.Run s) r c = ⊥
Asks plans p lines (step.Add s) r c =
    (c.row ≡ row_of plans s.name s.region) × (c.plan ≡ region_of plans s.name s.region)
Asks plans p lines (step.Drop s) r c = c.row ≡ row_of plans s.name s.region
Asks plans p lines (step.Devreset s) r c = c.row ≡ row_of plans s.name s.region
Asks plans p lines (step.Feed s) r c = c.row ≡ row_of plans s.name s.region
Asks plans p lines (step.Output s) r c = c.row ≡ row_of plans s.name s.region
Asks plans p lines s r c = Unit {0}

-- The index of a VCPU in its guest, with its plan.
abbrev pub vcpu_given : List VcpuPlan → (vcpu : ℕ) → Option (ℕ × VcpuPlan)
vcpu_given vcpus vcpu = option_map (λ plan. (index_of vcpu, plan)) (slice_get vcpus (index_of vcpu))

-- What the terminal says of a step of a line: a rest is done, a name that has no good plan is refused before the
-- directory is asked, and the row and the plan of a region, or the plan of a VCPU, are handed over.
abbrev pub Goes : List Planned → LineState → Step → Reply → Carry → Type 0
Goes plans line (step.Rest s) r c = r ≡ reply.Rest
Goes plans line (step.Name s) r c = c.stopped ≡ refusal_for (planned plans s.name)
Goes plans line (step.Add s) r c =
    (c.row ≡ row_of plans s.name s.region) × (c.plan ≡ region_of plans s.name s.region)
Goes plans line (step.Drop s) r c = c.row ≡ row_of plans s.name s.region
Goes plans line (step.Devreset s) r c = c.row ≡ row_of plans s.name s.region
Goes plans line (step.Vadd s) r c = c.vcpu ≡ vcpu_given (vcpus_of plans (guest_name line.asked)) s.vcpu
Goes plans line s r c = Unit {0}

-- Why a line is no command; the definitions of commands give no want of memory.
abbrev pub refusal_of : WordsRefusal → Refusal
refusal_of words.NoCommand = refusal.NoCommand
refusal_of (words.BadWords n) = refusal.BadWords n
refusal_of (words.Memory e) = refusal.NoCommand

-- A step is the one that a task asks for next, where the directory gives the generation that it shows.
abbrev pub FitsTask : List Planned → Present → (lines : ℕ) → Task → Step → Reply → Carry → Type 0
FitsTask plans p lines (makes asked) s r c = (s ≡ showing (shown_in s) asked) × Asks plans p lines s r c
FitsTask plans p lines (goes line) s r c = (next_step line (shown_in s) ≡ Some s) × Goes plans line s r c
FitsTask plans p lines (tells line why) s r c =
    (s ≡ step.Bad (record { line = line })) × (r ≡ reply.Bad (refusal_of why))

abbrev pub FitsPresent : List Planned → (lines : ℕ) → Option Present → Step → Reply → Carry → Type 0
FitsPresent plans lines None s r c = ⊥
FitsPresent plans lines (Some p) s r c = FitsTask plans p lines p.task s r c

-- The interrupt steps, which a terminal owes and no command asks for.
abbrev pub is_interrupt : Step → Bool
is_interrupt (step.Sample s) = true
is_interrupt (step.Pin s) = true
is_interrupt s = false

-- The next step is the first that is owed, or else what the session asks for.
abbrev pub IsNextStep : TerminalState → (owed : List Step) → Step → Reply → Carry → Type 0
IsNextStep t (due ∷ owed) s r c = (s ≡ due) × (is_interrupt s ≡ true)
IsNextStep t [] s r c = FitsPresent t.plans t.session.lines (present t.plans t.session) s r c

-- A terminal agrees to an event that is its next: with its index, of its next step, handing over what that step does.
pub record TerminalAgrees (t : TerminalState) (e : Entry) : Type 0 where
  pub index : e.event.index ≡ t.count + 1
  pub step : IsNextStep t t.owed e.event.step e.event.reply e.carry
  pub carry : e.carry ≡ handed_over e.event.step e.carry

-- Nothing is owed for a guest that isn't made.
abbrev pub if_made : Stage → List Step → List Step
if_made Made steps = steps
if_made stage steps = []

-- What the change of a region's signals owes.
abbrev pub row_owes : Option Generation → (row : Option ℕ) → (parent : Option (ℕ × ℕ)) → SignalChanges → List Step
row_owes (Some guest) (Some row) parent changes = owed_for guest row parent changes
row_owes guest row parent changes = []

-- What the regions owe whose interrupts a new region takes, if it is a device.
abbrev pub children_owe : Option Generation → (row : Option ℕ) → Option RegionPlan → List RegionPlan → List Step
children_owe (Some guest) (Some row) (Some region) regions =
    if has_device region then child_samples guest row 0 regions else []
children_owe guest row region regions = []

-- The interrupt steps that a step owes: after a change of a device of a guest that is made, and after a sample.
abbrev pub owed_after : List Planned → Step → Reply → Carry → List Step
owed_after plans (step.Add s) (reply.Add (Ok changes)) c =
    if_made s.stage
    (row_owes s.generation c.row c.parent changes
    ++ children_owe s.generation c.row (region_at plans s.name c.row) (regions_of plans s.name))
owed_after plans (step.Drop s) (reply.Drop (Ok changes)) c =
    if_made s.stage (row_owes s.generation c.row c.parent changes)
owed_after plans (step.Devreset s) (reply.Devreset (Ok changes)) c = row_owes s.generation c.row c.parent changes
owed_after plans (step.Feed s) (reply.Feed (Ok changes)) c = row_owes s.generation c.row c.parent changes
owed_after plans (step.Sample s) (reply.Sample (Some sampled)) c = owed_for s.generation s.parent None sampled.changes
owed_after plans s r c = []

-- A step that was owed leaves the session; another is one that the session asked for.
abbrev pub terminal_with : TerminalState → (owed : List Step) → Step → Reply → Carry → TerminalState
terminal_with t (due ∷ owed) s r c = record t { count = t.count + 1; owed = owed ++ owed_after t.plans s r c }
terminal_with t [] s r c =
    record t {
      count = t.count + 1;
      owed = owed_after t.plans s r c;
      session = session_after t.plans t.session r c;
    }

-- An event leaves the terminal with one more made.
abbrev pub terminal_after : TerminalState → Entry → TerminalState
terminal_after t e = terminal_with t t.owed e.event.step e.event.reply e.carry

-- Whether nothing is owed.
abbrev pub owes_nothing : (owed : List Step) → Bool
owes_nothing [] = true
owes_nothing (due ∷ owed) = false

-- A terminal is at the end of its boot script where it owes nothing, its line is done, and no command of the boot script
-- is left.
pub record IsAtBootEnd (t : TerminalState) : Type 0 where
  pub owed : t.owed ≡ []
  pub booted : HasBooted t.session

-- A terminal is at its end where it owes nothing, its line is done, and no command is left.
pub record IsAtEnd (t : TerminalState) : Type 0 where
  pub owed : t.owed ≡ []
  pub ended : HasEnded t.session
