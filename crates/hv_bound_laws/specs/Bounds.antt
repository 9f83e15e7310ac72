-- The bounds within which the components of a board stay in a run from a good opening.
use Rattle.std.specs.Prelude.{◌≡◌, ◌<◌, ◌≤◌, ◌+◌, ℕ, All, List, length, slice_get, Some, IfSome}
use Rattle.hv_body.specs.declared.live.Live.{Live}
use Rattle.hv_dir.specs.Directory.{AreEntries}
use Rattle.hv_emu.specs.Device.{DevState}
use Rattle.hv_event.specs.declared.event.ActorId.TheVariants.{Hart}
use Rattle.hv_event.specs.declared.event.CellId.TheVariants as component
use Rattle.hv_event.specs.declared.event.Event.{Event}
use Rattle.hv_guest_steps.specs.Regions.{ShowWithin}
use Rattle.hv_kinds.specs.declared.state.State.TheVariants.{Unknown}
use Rattle.hv_machine.specs.Machine.{IsRun, State}
use Rattle.hv_model.specs.Cell.{Actor, Component}
use Rattle.hv_model.specs.declared.entry.Entry.{Entry}
use Rattle.hv_model.specs.Legal.{Leads, area_at_start, begun, booted, reached, start}
use Rattle.hv_model.specs.Origin.{Origin}
use Rattle.hv_model.specs.Plans.{Planned, regions_of}
use Rattle.hv_model.specs.Rules.{machine}
use Rattle.hv_programs.specs.Owed.{IsParent}
use Rattle.hv_region.specs.Addresses.{end_of}
use Rattle.hv_region.specs.declared.plan.Form.{Form}
use Rattle.hv_region.specs.declared.plan.Form.TheVariants.{Real}
use Rattle.hv_region.specs.declared.plan.RegionPlan.{RegionPlan}
use Rattle.hv_region.specs.declared.window.Window.{Window}
use Rattle.hv_text.specs.declared.limits.TheConstants.{GUEST_REGIONS, VCPUS}
use Rattle.hv_bound_laws.specs.Openings.{IsOpeningGood}

-- Windows lead to rows of a guest's plan.
abbrev pub LeadToRows : List Window → Type 0
LeadToRows windows = All (λ window. window.target < GUEST_REGIONS) windows

-- Windows end within the addresses of their type.
abbrev pub EndWithin : List Window → Type 0
EndWithin windows = All (λ window. window.base + window.size ≤ end_of window.kind) windows

-- The plan of a region is that of a row of some guest.
pub record IsPlanAt (plans : List Planned) (row : ℕ) (plan : RegionPlan) : Type 0 where
  pub guest : List ℕ
  pub at : slice_get (regions_of plans guest) row ≡ Some plan

module _ (O : Origin) where
  -- A region that shows a part of an area ends within one that the board has.
  abbrev pub HasArea : State (machine O) → (size : ℕ) → Form → Type 0
  HasArea s size (Real area offset) =
      (area < length O.opening.areas) × (offset + size ≤ length (s (Component (component.Area area))).value)
  HasArea s size _ = Unit {0}

  -- A state is within bounds: the windows of each guest show nothing behind memory, lead to rows and end within addresses, and
  -- its clock is of a row; the live region of a row has the plan of that row, the area that it shows, and another region
  -- that takes its interrupts, if any does; areas have as many bytes as at the start; the directory has a place for each
  -- slot; and a VCPU that is there, one that stands in a queue and one that a hart runs have numbers of the board.
  pub record IsBounded (s : State (machine O)) : Type 0 where
    pub spaces : (slot : ℕ) → ShowWithin (s (Component (component.Space slot))).value.windows
    pub rows : (slot : ℕ) → LeadToRows (s (Component (component.Space slot))).value.windows
    pub ends : (slot : ℕ) → EndWithin (s (Component (component.Space slot))).value.windows
    pub clocks :
        (slot : ℕ) → IfSome (s (Component (component.Space slot))).value.clock (λ clock. clock.0 < GUEST_REGIONS)
    pub plans :
        (slot row : ℕ) (live : Live DevState) → (s (Component (component.Body slot row))).value ≡ Some live
        → IsPlanAt O.opening.plans row live.plan
    pub areas :
        (slot row : ℕ) (live : Live DevState) → (s (Component (component.Body slot row))).value ≡ Some live
        → HasArea s live.plan.size live.plan.form
    pub parents :
        (slot row : ℕ) (live : Live DevState) → (s (Component (component.Body slot row))).value ≡ Some live
        → IsParent row live.plan.parent
    pub lengths :
        (area : ℕ) → length (s (Component (component.Area area))).value ≡ length (area_at_start O area)
    pub directory : AreEntries (s (Component component.Dir)).value.entries
    pub vcpus : (vcpu : ℕ) → VCPUS ≤ vcpu → (s (Component (component.Vcpu vcpu))).value.state ≡ Unknown
    pub queues : (hart : ℕ) → All (λ entry. entry.vcpu < VCPUS) (s (Component (component.Queue hart))).value
    pub currents :
        (hart : ℕ) → IfSome (s (Actor (Hart hart))).value.program.current (λ current. current.vcpu < VCPUS)

-- Each state is that a run leads to, and one behind it that all actors begin.
abbrev pub RunsAreBounded : Type 0
RunsAreBounded =
    (O : Origin) → IsOpeningGood O → (boot later : List Entry) → IsRun (machine O) (start O) boot
    → IsRun (machine O) (begun O boot) later
    → IsBounded O (booted O boot) × IsBounded O (reached O boot later)

-- So is each that a legal history leads to.
abbrev pub LegalHistoriesAreBounded : Type 0
LegalHistoriesAreBounded =
    (O : Origin) → IsOpeningGood O → (H : List Event) (s : State (machine O)) → Leads O H s → IsBounded O s
