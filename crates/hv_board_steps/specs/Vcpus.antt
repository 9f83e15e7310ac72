-- Steps of terminals on VCPUs.
use Rattle.std.specs.Prelude.{◌≡◌, ◌<◌, ℕ, Option, None, Some, IsSome, List, [], ◌∷◌}
use Rattle.hv_answer.specs.declared.reply.Reply.{Reply}
use Rattle.hv_answer.specs.declared.reply.Reply.TheVariants as reply
use Rattle.hv_board.specs.Board.{part_at}
use Rattle.hv_board.specs.declared.board.Board.{Board}
use Rattle.hv_dir.specs.Directory.{DirState}
use Rattle.hv_event.specs.declared.event.ActorId.TheVariants.{Terminal}
use Rattle.hv_event.specs.declared.event.CellId.{CellId}
use Rattle.hv_event.specs.declared.event.CellId.TheVariants as component
use Rattle.hv_parts.specs.Admission.{IsAdmittedBy}
use Rattle.hv_parts.specs.Value.{Dir}
use Rattle.hv_parts.specs.declared.part.Part.TheVariants as part
use Rattle.hv_region.specs.declared.plan.VcpuPlan.{VcpuPlan}
use Rattle.hv_rules.specs.Carry.{Carry, nothing}
use Rattle.hv_rules.specs.Footprint.{components}
use Rattle.hv_step.specs.declared.step.ByGuest.{ByGuest}
use Rattle.hv_step.specs.declared.step.Step.{Step}
use Rattle.hv_step.specs.declared.step.Step.TheVariants as step
use Rattle.hv_text.specs.declared.limits.TheConstants.{VCPUS}

-- A step changes or shows a VCPU of the board.
abbrev pub IsVcpusStep : Step → Type 0
IsVcpusStep (step.Kick s) = s.vcpu < VCPUS
IsVcpusStep (step.Resume s) = s.vcpu < VCPUS
IsVcpusStep (step.Pause s) = s.vcpu < VCPUS
IsVcpusStep (step.Halt s) = s.vcpu < VCPUS
IsVcpusStep (step.Reset s) = s.vcpu < VCPUS
IsVcpusStep (step.Vdrop s) = s.vcpu < VCPUS
IsVcpusStep (step.Look s) = s.vcpu < VCPUS
IsVcpusStep _ = ⊥

-- Index and plan of a VCPU are handed over.
abbrev pub OfVcpu : (vcpu : Option (ℕ × VcpuPlan)) → Reply → Carry → Type 0
OfVcpu vcpu r c = c.vcpu ≡ vcpu

-- The guest by whose name a step changes its VCPU, if it does so by a name.
abbrev pub guest_by : Step → Option ByGuest
guest_by (step.Kick s) = s.guest
guest_by (step.Resume s) = s.guest
guest_by (step.Pause s) = s.guest
guest_by (step.Halt s) = s.guest
guest_by (step.Reset s) = s.guest
guest_by _ = None

-- What such a step touches is the same whatever comes of it.
abbrev pub touched_by : (harts : ℕ) → Step → List CellId
touched_by harts s = components harts (Terminal 0) s reply.Rest nothing

-- The directory stands first where a step is by guest.
abbrev pub directory_if : Option ByGuest → List CellId
directory_if None = []
directory_if (Some by) = component.Dir ∷ []

-- The directory of a board admits a step, where it is by guest.
abbrev pub IsAdmittedOn : {E : Type 0} → Board E → Option ByGuest → Type 0
IsAdmittedOn board guest =
    (d : DirState) → part_at board component.Dir ≡ Some (part.Dir d) → IsAdmittedBy (Dir d ∷ []) guest

-- A step by guest shows a generation.
abbrev pub IsShown : Option ByGuest → Type 0
IsShown None = Unit {0}
IsShown (Some by) = IsSome by.generation
