-- The access of a load or a store: which step makes it, and what it is answered.
use Rattle.std.specs.Prelude.{ℕ, ◌^◌, ◌<◌, ◌≤◌, if◌then◌else◌, Some}
use Rattle.hv_body.specs.declared.place.Answer.{Answer}
use Rattle.hv_body.specs.declared.place.Answer.TheVariants.{NotHere}
use Rattle.hv_handed.specs.Given.{pended}
use Rattle.hv_handed.specs.declared.pending.Pending.{Pending}
use Rattle.hv_rules.specs.Body.{BodyValue, answer_to}
use Rattle.hv_rules.specs.Carry.{nothing}
use Rattle.hv_rules.specs.Hart.{IsAccess}
use Rattle.hv_step.specs.declared.step.Access.{Access}
use Rattle.hv_vcpu.specs.Vcpu.{VcpuValue}
use Rattle.hv_vcpu_steps.specs.Instructions.{is_run_of}

-- What a region answers to a hart's access: nothing is here where the VCPU doesn't run on the hart.
abbrev pub access_for : (hart : ℕ) → Access → VcpuValue → BodyValue → Answer
access_for hart s v body = if is_run_of hart s.generation.birth v then answer_to body s else NotHere

-- A step makes the access that is pending.
abbrev pub Makes : Pending → Access → Type 0
Makes pending s =
    IsAccess s.vcpu (pended pending) s.generation s (record nothing { pending = Some (pended pending) })

-- An access has 1 to 8 bytes, and what it stores fits them.
pub record FitsAccess (s : Access) : Type 0 where
  pub some : 1 ≤ s.size
  pub few : s.size ≤ 8
  pub fits : s.value < 256 ^ s.size
