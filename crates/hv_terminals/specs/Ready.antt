-- What a board that makes a step asks of the step itself, and what it knows of one that is due of a terminal.
use Rattle.std.specs.Prelude.{◌≡◌, ◌<◌, ℕ, Option, None, Some, List}
use Rattle.std.specs.Option.{IfSome, IsSome}
use Rattle.hv_answer.specs.declared.reply.Reply.{Reply}
use Rattle.hv_fpart.specs.Part.{IsFilesStep}
use Rattle.hv_kinds.specs.declared.generation.Generation.{Generation}
use Rattle.hv_step.specs.declared.step.Step.{Step}
use Rattle.hv_step.specs.declared.step.Step.TheVariants as step
use Rattle.hv_text.specs.declared.limits.TheConstants.{GUEST_REGIONS, GUEST_VCPUS, VCPUS}
use Rattle.hv_programs.specs.Line.{IsGiven}
use Rattle.hv_programs.specs.Owed.{IsOwed}
use Rattle.hv_model.specs.Plans.{Planned}
use Rattle.hv_terminals.specs.Adding.{GivesItsVcpu}
use Rattle.hv_terminals.specs.Due.{Handing, handing, handing_for, shown_at}
use Rattle.hv_terminals.specs.declared.due.Due.{Due}

-- A step of a terminal can be made: the files have what it names, the guest that it shows is in one of the board's slots,
-- its VCPU is one of the board's, and an interrupt step is one that may be owed. The steps of harts are none.
abbrev pub CanBeMade : Step → Type 0
CanBeMade (step.Bad s) = Unit {0}
CanBeMade (step.Rest s) = Unit {0}
CanBeMade (step.Ls s) = IsFilesStep (step.Ls s)
CanBeMade (step.Cat s) = IsFilesStep (step.Cat s)
CanBeMade (step.Dts s) = IsFilesStep (step.Dts s)
CanBeMade (step.Run s) = Unit {0}
CanBeMade (step.Mkdir s) = IsFilesStep (step.Mkdir s)
CanBeMade (step.Rm s) = IsFilesStep (step.Rm s)
CanBeMade (step.Write s) = IsFilesStep (step.Write s)
CanBeMade (step.Asm s) = IsFilesStep (step.Asm s)
CanBeMade (step.Guests s) = Unit {0}
CanBeMade (step.Name s) = Unit {0}
CanBeMade (step.Stage s) = Unit {0}
CanBeMade (step.Add s) = IsGiven s.generation
CanBeMade (step.Drop s) = IsGiven s.generation
CanBeMade (step.Regions s) = IsGiven s.generation
CanBeMade (step.Load s) = IsGiven s.generation
CanBeMade (step.Mem s) = IsGiven s.generation
CanBeMade (step.Devreset s) = IsGiven s.generation
CanBeMade (step.Feed s) = IsGiven s.generation
CanBeMade (step.Output s) = IsGiven s.generation
CanBeMade (step.Vadd s) = s.vcpu < VCPUS
CanBeMade (step.Vdrop s) = s.vcpu < VCPUS
CanBeMade (step.Kick s) = s.vcpu < VCPUS
CanBeMade (step.Resume s) = s.vcpu < VCPUS
CanBeMade (step.Pause s) = s.vcpu < VCPUS
CanBeMade (step.Halt s) = s.vcpu < VCPUS
CanBeMade (step.Reset s) = s.vcpu < VCPUS
CanBeMade (step.Look s) = s.vcpu < VCPUS
CanBeMade (step.Sample s) = IsOwed (step.Sample s)
CanBeMade (step.Pin s) = IsOwed (step.Pin s)
CanBeMade _ = ⊥

-- A terminal gives the reply itself to a step that touches nothing, and to no other.
abbrev pub RepliesItself : Step → Option Reply → Type 0
RepliesItself (step.Bad s) own = IsSome own
RepliesItself (step.Rest s) own = IsSome own
RepliesItself s own = own ≡ None

-- The plan of a region is given where its row is.
abbrev pub IsPlanGiven : {A : Type 0} → (row : Option ℕ) → (plan : Option A) → Type 0
IsPlanGiven None plan = Unit {0}
IsPlanGiven (Some row) plan = IsSome plan

-- They are handed over for a region that is added.
abbrev pub GivesItsPlan : Step → Handing → Type 0
GivesItsPlan (step.Add s) h = IsPlanGiven h.row h.plan
GivesItsPlan s h = Unit {0}

-- A step that is due is ready for a board: it can be made whatever guest the directory gives; the terminal hands over what
-- it has to for a line on a guest, where a script may have so many lines, and that is of the board.
pub record IsReady (plans : List Planned) (due : Due) : Type 0 where
  pub made : (given : Option Generation) → IsGiven given → CanBeMade (shown_at due.index given due.step)
  pub index : due.index < GUEST_VCPUS
  pub own : RepliesItself due.step due.reply
  pub guest : List ℕ
  pub room : Option ℕ
  pub hands : handing due.hands ≡ handing_for plans guest room due.step
  pub row : IfSome (handing due.hands).row (λ row. row < GUEST_REGIONS)
  pub plan : GivesItsPlan due.step (handing due.hands)
  pub vcpu : GivesItsVcpu due.step (handing due.hands)
