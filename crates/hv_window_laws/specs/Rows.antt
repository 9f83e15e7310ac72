-- The row that a fetch or an access shows is the only one, and there is no fault instead.
use Rattle.std.specs.Prelude.{◌≡◌, ℕ, ◌≤◌}
use Rattle.hv_answer.specs.declared.reply.Reply.{Reply}
use Rattle.hv_event.specs.declared.event.ActorId.{ActorId}
use Rattle.hv_rules.specs.Body.{BodyAgrees}
use Rattle.hv_rules.specs.Carry.{Carry}
use Rattle.hv_rules.specs.Hart.{instruction_size}
use Rattle.hv_rules.specs.Space.{SpaceAgrees}
use Rattle.hv_rules.specs.Vcpu.{VcpuAgrees}
use Rattle.hv_step.specs.declared.step.Access.{Access}
use Rattle.hv_step.specs.declared.step.Fault.{Fault}
use Rattle.hv_step.specs.declared.step.Fetch.{Fetch}
use Rattle.hv_step.specs.declared.step.Step.TheVariants as step
use Rattle.hv_vcpu.specs.Vcpu.{VcpuValue}
use Rattle.hv_window_laws.specs.Guests.{Guests}
use Rattle.hv_window_laws.specs.Run.{IsReached}

-- A fetch may be made where the VCPU and the region agree to it.
pub record MayFetch (guests : Guests) (by : ActorId) (v : VcpuValue) (fetch : Fetch) : Type 0 where
  pub reply : Reply
  pub carry : Carry
  pub vcpu : VcpuAgrees by v (step.Fetch fetch) reply carry
  pub body :
      BodyAgrees fetch.row (guests.bodies fetch.generation.slot fetch.row) (step.Fetch fetch) reply carry

-- An access may be made where the region agrees to it.
pub record MayAccess (guests : Guests) (access : Access) : Type 0 where
  pub reply : Reply
  pub carry : Carry
  pub body :
      BodyAgrees access.row (guests.bodies access.generation.slot access.row) (step.Access access) reply carry

-- A fault may be made where the space agrees to it.
pub record MayFault (guests : Guests) (fault : Fault) : Type 0 where
  pub reply : Reply
  pub carry : Carry
  pub space : SpaceAgrees (guests.spaces fault.generation.slot) (step.Fault fault) reply carry

-- A VCPU of a slot has one fetch.
abbrev pub FetchIsTheOnlyOne : Type 0
FetchIsTheOnlyOne =
    (count : ℕ) (guests : Guests) → IsReached count guests → (by : ActorId) (v : VcpuValue) (one other : Fetch)
    → one.vcpu ≡ other.vcpu → one.generation.slot ≡ other.generation.slot
    → MayFetch guests by v one → MayFetch guests by v other → one ≡ other

-- Where it has one, the fault of its instruction isn't made.
abbrev pub FetchOrFault : Type 0
FetchOrFault =
    (count : ℕ) (guests : Guests) → IsReached count guests → (by : ActorId) (v : VcpuValue) (fetch : Fetch) (fault : Fault)
    → fault.generation.slot ≡ fetch.generation.slot → fault.address ≡ v.context.pc → fault.size ≡ instruction_size
    → MayFetch guests by v fetch → MayFault guests fault → ⊥

-- Accesses that are the same but for their rows are the same.
abbrev pub AccessIsTheOnlyOne : Type 0
AccessIsTheOnlyOne =
    (count : ℕ) (guests : Guests) → IsReached count guests → (one other : Access)
    → 1 ≤ one.size → other ≡ record one { row = other.row }
    → MayAccess guests one → MayAccess guests other → one ≡ other

-- Where an access is made, its fault isn't.
abbrev pub AccessOrFault : Type 0
AccessOrFault =
    (count : ℕ) (guests : Guests) → IsReached count guests → (access : Access) (fault : Fault)
    → 1 ≤ access.size → fault.generation.slot ≡ access.generation.slot
    → fault.address ≡ access.address → fault.size ≡ access.size
    → MayAccess guests access → MayFault guests fault → ⊥
