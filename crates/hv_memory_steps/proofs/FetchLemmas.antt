-- Bodies and areas take the fetches of instructions.
use Rattle.std.proofs.Common.{◌≡◌, ℕ, Bool, true, false, refl, sym, ap, subst, Option, Some, None}
use Rattle.std.specs.Prelude.{IsSome, if◌then◌else◌}
use Rattle.hv_answer.specs.declared.reply.Fetched.{Fetched}
use Rattle.hv_answer.specs.declared.reply.Reply.{Reply}
use Rattle.hv_answer.specs.declared.reply.Reply.TheVariants as reply
use Rattle.hv_event.specs.declared.event.ActorId.{ActorId}
use Rattle.hv_handed.specs.Takes.{VcpuTakes}
use Rattle.hv_vcpu.specs.Vcpu.{VcpuValue}
use Rattle.hv_rules.specs.Carry.{Carry, Pending}
use Rattle.hv_step.specs.declared.step.Fetch.{Fetch}
use Rattle.hv_step.specs.declared.step.Step.TheVariants as step
use Rattle.hv_memory_steps.specs.Hands.{fetch_carry}

-- what is some is what it is where its condition holds
pub if_some : (b : Bool) (x : ℕ) → IsSome (if b then Some x else None) → (if b then Some x else None) ≡ Some x
if_some true x some = refl
if_some false x some = cc

-- a VCPU takes a fetch that shows what it carried out, with its pc and the access that it leaves
pub fetch_carried : (by : ActorId) (s : Fetch) (r : Reply) (c : Carry) (shown : Option Fetched) (pc : ℕ) (pending : Option Pending) (area : Option (ℕ × ℕ)) (old new : VcpuValue)
    → r ≡ reply.Fetch shown → c ≡ fetch_carry (Some pc) pending area
    → ((d : Carry) → d.pc ≡ Some pc → d.pending ≡ pending → VcpuTakes by (step.Fetch s) (reply.Fetch shown) d old new)
    → VcpuTakes by (step.Fetch s) r c old new
fetch_carried by s r c shown pc pending area old new shows handed takes =
    subst (λ (t : Reply). VcpuTakes by (step.Fetch s) t c old new) (sym shows)
    (takes c (ap (λ (d : Carry). d.pc) handed) (ap (λ (d : Carry). d.pending) handed))

-- the pc that a fetch hands over is where it was fetched
pub fetched_pc : (by : ActorId) (s : Fetch) (shown : Option Fetched) (pc : ℕ) (pending : Option Pending) (old new : VcpuValue)
    → ((d : Carry) → d.pc ≡ Some pc → d.pending ≡ pending → VcpuTakes by (step.Fetch s) (reply.Fetch shown) d old new)
    → Some pc ≡ Some old.context.pc
fetched_pc by s shown pc pending old new takes = (takes (fetch_carry (Some pc) pending None) refl refl).agrees.3
