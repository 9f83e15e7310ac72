-- Legal histories are in order, where the plans of their opening are good.
use Rattle.std.specs.Prelude.{◌≡◌, ℕ, suc, Option, None, Some, Result, Ok, Err, List, [], ◌∷◌, is_some}
use Rattle.std.specs.List.{AllByRecursion}
use Rattle.hv_dir.specs.Directory.{DirState, guest_at}
use Rattle.hv_dir.specs.declared.refusal.DirRefusal.{DirRefusal}
use Rattle.hv_event.specs.declared.event.ActorId.TheVariants.{Terminal}
use Rattle.hv_event.specs.declared.event.CellId.TheVariants as component
use Rattle.hv_event.specs.declared.event.Event.{Event}
use Rattle.hv_kinds.specs.declared.stage.Stage.{Stage}
use Rattle.hv_kinds.specs.declared.state.State.TheVariants.{Unknown}
use Rattle.hv_machine.specs.Machine.{IsRun, State, next_state}
use Rattle.hv_model.specs.Cell.{Actor, Component}
use Rattle.hv_model.specs.declared.entry.Entry.{Entry}
use Rattle.hv_model.specs.Legal.{Leads, begun, start}
use Rattle.hv_model.specs.Origin.{Origin}
use Rattle.hv_model.specs.Rules.{machine}
use Rattle.hv_plan.specs.Rules.{IsGood}
use Rattle.hv_rules.specs.Hart.{slot_of}
use Rattle.hv_rules.specs.Line.{LineState}
use Rattle.hv_step.specs.declared.step.Step.{Step}
use Rattle.hv_step.specs.declared.step.Step.TheVariants as step
use Rattle.hv_vcpu.specs.Vcpu.{VcpuValue, birth_of}
use Rattle.hv_window_laws.specs.Legal.{AreInOrder}
use Rattle.hv_window_laws.specs.Windows.{birth_in}
use Rattle.hv_order_laws.specs.Owners.{HasOwners, Scene}

-- The guests of the host tree that have plans have good ones.
abbrev pub ArePlansGood : Origin → Type 0
ArePlansGood O = AllByRecursion (IsGood O.opening.areas) O.opening.plans

-- A slot is let go once no VCPU of it is there.
abbrev pub LeavesNoVcpu : (vcpus : ℕ → VcpuValue) → Result (ℕ × ℕ) DirRefusal → (next : Option Stage) → Type 0
LeavesNoVcpu vcpus (Ok guest) None = (v : ℕ) → slot_of (suc v) ≡ guest.0 → (vcpus (suc v)).state ≡ Unknown
LeavesNoVcpu vcpus guest next = Unit {0}

-- What is asked of an actor besides what the components see to: it adds a VCPU to the guest that has its slot, and lets
-- a slot go only once no VCPU of it is there.
abbrev pub IsVcpuInOrder : DirState → (vcpus : ℕ → VcpuValue) → Step → Type 0
IsVcpuInOrder dir vcpus (step.Vadd s) = birth_in dir (slot_of s.vcpu) ≡ Some s.birth
IsVcpuInOrder dir vcpus (step.Stage s) = LeavesNoVcpu vcpus (guest_at dir s.name s.from) s.to
IsVcpuInOrder dir vcpus _ = Unit {0}

-- Each event is so, in the state in which it is made.
abbrev pub AreVcpusInOrder : (O : Origin) → State (machine O) → List Entry → Type 0
AreVcpusInOrder O s [] = Unit {0}
AreVcpusInOrder O s (e ∷ es) =
    IsVcpuInOrder (s (Component component.Dir)).value (λ v. (s (Component (component.Vcpu v))).value) e.event.step
    × AreVcpusInOrder O (next_state (machine O) s e) es

-- Entries are in order from a state on: they add regions that can be and VCPUs of the guest in their slot, and let a slot
-- go only once the guest there has no window and no VCPU.
pub record AreOrdered (O : Origin) (s : State (machine O)) (es : List Entry) : Type 0 where
  pub guests : AreInOrder O s es
  pub vcpus : AreVcpusInOrder O s es

-- A run is in order, and so is one behind it that all actors begin.
abbrev pub RunsAreInOrder : Type 0
RunsAreInOrder =
    (O : Origin) → ArePlansGood O → (boot later : List Entry) → IsRun (machine O) (start O) boot
    → IsRun (machine O) (begun O boot) later
    → AreOrdered O (start O) boot × AreOrdered O (begun O boot) later

-- So is each legal history, in both of its parts.
abbrev pub LegalHistoriesAreInOrder : Type 0
LegalHistoriesAreInOrder =
    (O : Origin) → ArePlansGood O → (H : List Event) (s : State (machine O)) (leads : Leads O H s)
    → AreOrdered O (start O) leads.boot × AreOrdered O (begun O leads.boot) leads.later

-- What lines see of a state, and the lines that its terminals are at.
abbrev pub scene_of : (O : Origin) → State (machine O) → Scene
scene_of O s = record {
  dir = (s (Component component.Dir)).value;
  windows = λ slot. (s (Component (component.Space slot))).value.windows;
  is_there = λ v. is_some (birth_of (s (Component (component.Vcpu (suc v)))).value);
}

abbrev pub lines_of : (O : Origin) → State (machine O) → (terminal : ℕ) → Option LineState
lines_of O s t = (s (Actor (Terminal t))).value.session.line

-- In each state that a legal history leads to, a guest that is made or ended by a line has that line alone as its owner.
abbrev pub LinesOwnTheirGuests : Type 0
LinesOwnTheirGuests =
    (O : Origin) → ArePlansGood O → (H : List Event) (s : State (machine O)) → Leads O H s
    → HasOwners O.opening.plans (scene_of O s) (lines_of O s)
