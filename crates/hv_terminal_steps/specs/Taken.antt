-- When a queue takes each step by which a VCPU departs.
use Rattle.std.specs.Prelude.{◌≡◌, ℕ, Result}
use Rattle.hv_event.specs.declared.event.ActorId.{ActorId}
use Rattle.hv_event.specs.declared.event.CellId.TheVariants.{Queue}
use Rattle.hv_answer.specs.declared.reply.Reply.{Reply}
use Rattle.hv_answer.specs.declared.reply.Reply.TheVariants as reply
use Rattle.hv_parts.specs.Takes.{PartTakes}
use Rattle.hv_parts.specs.Value.{PartValue}
use Rattle.hv_refusal.specs.declared.refusal.Refusal.{Refusal}
use Rattle.hv_rules.specs.Carry.{Carry}
use Rattle.hv_step.specs.declared.step.Step.{Step}
use Rattle.hv_step.specs.declared.step.Step.TheVariants as step

-- A reply to the pause, the halt, the reset or the drop of a VCPU.
abbrev pub IsDeparture : Step → (vcpu : ℕ) → Reply → Type 0
IsDeparture (step.Pause s) vcpu r = (s.vcpu ≡ vcpu) × (answer : Result (Unit {0}) Refusal) × (r ≡ reply.Pause answer)
IsDeparture (step.Halt s) vcpu r = (s.vcpu ≡ vcpu) × (answer : Result (Unit {0}) Refusal) × (r ≡ reply.Halt answer)
IsDeparture (step.Reset s) vcpu r = (s.vcpu ≡ vcpu) × (answer : Result (Unit {0}) Refusal) × (r ≡ reply.Reset answer)
IsDeparture (step.Vdrop s) vcpu r = (s.vcpu ≡ vcpu) × (answer : Result (Unit {0}) Refusal) × (r ≡ reply.Vdrop answer)
IsDeparture s vcpu r = ⊥

-- A queue takes each step by which a VCPU departs with a reply.
abbrev pub Departs : (vcpu : ℕ) → Reply → (old new : PartValue) → Type 0
Departs vcpu r old new =
    (by : ActorId) → (hart : ℕ) → (s : Step) → (c : Carry) → IsDeparture s vcpu r → PartTakes by (Queue hart) s r c old new
