-- What is known of the reply to a step of a terminal, and of what the step hands over, where the entry may happen.
use Rattle.std.specs.Prelude.{◌≡◌, ◌<◌, ◌≤◌, ◌+◌, ℕ, All, List, Option, Some}
use Rattle.hv_answer.specs.declared.reply.Reply.{Reply}
use Rattle.hv_answer.specs.declared.reply.Reply.TheVariants as reply
use Rattle.hv_body.specs.declared.live.Live.{Live}
use Rattle.hv_dir.specs.Directory.{AreEntries}
use Rattle.hv_emu.specs.Device.{DevState}
use Rattle.hv_event.specs.declared.event.CellId.TheVariants as component
use Rattle.hv_machine.specs.Machine.{MayHappen, State}
use Rattle.hv_model.specs.Cell.{Component}
use Rattle.hv_model.specs.declared.entry.Entry.{Entry}
use Rattle.hv_model.specs.Origin.{Origin}
use Rattle.hv_model.specs.Plans.{regions_of}
use Rattle.hv_model.specs.Rules.{machine}
use Rattle.hv_model.specs.Terminal.{TerminalAgrees, TerminalState}
use Rattle.hv_programs.specs.Line.{GivesSlot, IsGuest}
use Rattle.hv_programs.specs.Owed.{IsParent}
use Rattle.hv_region.specs.Addresses.{end_of}
use Rattle.hv_rules.specs.Carry.{Carry}
use Rattle.hv_rules.specs.Handed.{handed_over}
use Rattle.hv_shown.specs.Appends.{IsStepShown}
use Rattle.hv_step.specs.declared.step.Mem.{Mem}
use Rattle.hv_step.specs.declared.step.Sample.{Sample}
use Rattle.hv_step.specs.declared.step.Step.{Step}
use Rattle.hv_step.specs.declared.step.Step.TheVariants as step
use Rattle.hv_terminals.specs.Terminal.{Brings, HasGoodRegions, IsCounted, IsInSlot}
use Rattle.hv_text.specs.declared.limits.TheConstants.{GUEST_REGIONS, SLOTS}

-- A step of a terminal that touches components: the reply to another is the actor's own, or it is a hart's.
abbrev pub IsAnswered : Step → Type 0
IsAnswered (step.Bad s) = ⊥
IsAnswered (step.Rest s) = ⊥
IsAnswered (step.Tick s) = ⊥
IsAnswered (step.Idle s) = ⊥
IsAnswered (step.Dispatch s) = ⊥
IsAnswered (step.Preempt s) = ⊥
IsAnswered (step.Leave s) = ⊥
IsAnswered (step.Take s) = ⊥
IsAnswered (step.Fetch s) = ⊥
IsAnswered (step.Access s) = ⊥
IsAnswered (step.Fault s) = ⊥
IsAnswered (step.Balance s) = ⊥
IsAnswered s = Unit {0}

-- A reply to a look at memory.
abbrev pub IsMemoryReply : Reply → Type 0
IsMemoryReply (reply.Mem answer) = Unit {0}
IsMemoryReply r = ⊥

-- What the reply to a command's one step shows can be shown; where memory that is shown ends the windows say.
abbrev pub IsShownFor : Step → Reply → Type 0
IsShownFor (step.Bad s) r = Unit {0}
IsShownFor (step.Rest s) r = Unit {0}
IsShownFor (step.Name s) r = Unit {0}
IsShownFor (step.Stage s) r = Unit {0}
IsShownFor (step.Devreset s) r = Unit {0}
IsShownFor (step.Vadd s) r = Unit {0}
IsShownFor (step.Vdrop s) r = Unit {0}
IsShownFor (step.Sample s) r = Unit {0}
IsShownFor (step.Pin s) r = Unit {0}
IsShownFor (step.Mem s) r = IsMemoryReply r
IsShownFor s r = IsStepShown s r

-- The reply to a step opens a script only where it is to a run, and gives one of the board's slots if it is to a claim; the
-- guest that a step shows, and the one that it hands over, are in such slots.
pub record IsReplied (s : Step) (r : Reply) (c : Carry) : Type 0 where
  pub counted : IsCounted s r c
  pub slot : GivesSlot r
  pub in_slot : IsInSlot s
  pub guest : IsGuest c.guest
  pub shown : IsShownFor s r

-- Such is each entry that may happen in a state whose directory has each guest in its slot; a sample is one of a guest
-- of the board.
abbrev pub StepsAreRepliedTo : Type 0
StepsAreRepliedTo =
    (O : Origin) (s : State (machine O)) (e : Entry) → AreEntries (s (Component component.Dir)).value.entries
    → MayHappen (machine O) s e → IsAnswered e.event.step → handed_over e.event.step e.carry ≡ e.carry
    → ((sample : Sample) → e.event.step ≡ step.Sample sample → sample.generation.slot < SLOTS)
    → IsReplied e.event.step e.event.reply e.carry

-- The interrupts of a live region go to another of its guest, if to any.
abbrev pub HaveParents : (O : Origin) → State (machine O) → Type 0
HaveParents O s =
    (slot row : ℕ) (live : Live DevState) → slot < SLOTS → row < GUEST_REGIONS
    → (s (Component (component.Body slot row))).value ≡ Some live → IsParent row live.plan.parent

-- What a step brings to a terminal is of the board, where the terminal goes by good plans and the live regions have parents.
abbrev pub StepsBringRegions : Type 0
StepsBringRegions =
    (O : Origin) (s : State (machine O)) (e : Entry) (t : TerminalState)
    → AreEntries (s (Component component.Dir)).value.entries → HaveParents O s → MayHappen (machine O) s e
    → TerminalAgrees t e → ((name : List ℕ) → HasGoodRegions (regions_of t.plans name)) → Brings e.event.step e.carry

-- The windows of each guest end within the addresses of their type.
abbrev pub WindowsEndWithin : (O : Origin) → State (machine O) → Type 0
WindowsEndWithin O s =
    (slot : ℕ) → slot < SLOTS
    → All (λ window. window.base + window.size ≤ end_of window.kind) (s (Component (component.Space slot))).value.windows

-- The bytes that a look at memory shows end within the numbers of an address, where windows do.
abbrev pub MemoryShownEndsWithin : Type 0
MemoryShownEndsWithin =
    (O : Origin) (s : State (machine O)) (e : Entry) (look : Mem)
    → AreEntries (s (Component component.Dir)).value.entries → WindowsEndWithin O s → MayHappen (machine O) s e
    → e.event.step ≡ step.Mem look → IsStepShown e.event.step e.event.reply
