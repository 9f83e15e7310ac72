-- The VCPUs that a line adds are of its guest's plan.
use Rattle.std.specs.Prelude.{◌≡◌, ◌<◌, ℕ, Option, None, Some, Err, List, length}
use Rattle.std.specs.List.{AllByRecursion}
use Rattle.hv_answer.specs.declared.reply.Reply.{Reply}
use Rattle.hv_answer.specs.declared.reply.Reply.TheVariants as reply
use Rattle.hv_refusal.specs.declared.refusal.Refusal.{Refusal}
use Rattle.hv_region.specs.Plans.{IsVcpuPlan}
use Rattle.hv_region.specs.declared.plan.VcpuPlan.{VcpuPlan}
use Rattle.hv_step.specs.declared.step.Step.{Step}
use Rattle.hv_step.specs.declared.step.Step.TheVariants as step
use Rattle.hv_text.specs.declared.limits.TheConstants.{GUEST_VCPUS}
use Rattle.hv_rules.specs.Carry.{Carry}
use Rattle.hv_rules.specs.Line as line
use Rattle.hv_rules.specs.Line.{Ask, LineState, guest_name, left}
use Rattle.hv_programs.specs.Line.{IsAsk, IsGuest}
use Rattle.hv_model.specs.Plans.{Planned, vcpus_of}
use Rattle.hv_model.specs.Terminal.{TerminalState}
use Rattle.hv_terminals.specs.Due.{Handing}

-- A VCPU that is added is one of so many.
abbrev pub AddsWithin : (vcpus : ℕ) → Ask → Type 0
AddsWithin vcpus (line.add_vcpu index) = index < vcpus
AddsWithin vcpus _ = Unit {0}

-- What a line asks for is of the board, and adds one of so many VCPUs if it adds one.
abbrev pub IsAskWithin : (vcpus : ℕ) → Ask → Type 0
IsAskWithin vcpus ask = IsAsk ask × AddsWithin vcpus ask

-- A line knows a guest in one of the board's slots, and what it has left to ask for is of the board and adds VCPUs of its
-- guest's plan.
pub record AddsItsVcpus (plans : List Planned) (l : LineState) : Type 0 where
  pub guest : IsGuest l.guest
  pub asks : AllByRecursion (IsAskWithin (length (vcpus_of plans (guest_name l.asked)))) (left l.place)

abbrev pub AddsItsVcpusIf : List Planned → Option LineState → Type 0
AddsItsVcpusIf plans None = Unit {0}
AddsItsVcpusIf plans (Some l) = AddsItsVcpus plans l

-- So does the line that a terminal is at, if it is at one.
abbrev pub LineAddsItsVcpus : TerminalState → Type 0
LineAddsItsVcpus t = AddsItsVcpusIf t.plans t.session.line

-- A name that has no good plan is refused a claim.
abbrev pub IsStoppedSo : Step → Reply → Carry → Type 0
IsStoppedSo (step.Name s) r c = (why : Refusal) → c.stopped ≡ Some why → r ≡ reply.Name (Err why)
IsStoppedSo s r c = Unit {0}

-- Index and plan of a VCPU are given and keep the rules.
abbrev pub IsVcpuGiven : Option (ℕ × VcpuPlan) → Type 0
IsVcpuGiven None = ⊥
IsVcpuGiven (Some vcpu) = (vcpu.0 < GUEST_VCPUS) × IsVcpuPlan vcpu.1

-- They are handed over for a VCPU that is added.
abbrev pub GivesItsVcpu : Step → Handing → Type 0
GivesItsVcpu (step.Vadd s) h = IsVcpuGiven h.vcpu
GivesItsVcpu s h = Unit {0}
