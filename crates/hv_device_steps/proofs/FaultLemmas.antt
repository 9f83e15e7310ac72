-- Faults where no window holds an access.
use Rattle.std.proofs.Common.{◌≡◌, Bool, true, false, refl, sym, ap, ◌∙◌, Option, Some, None}
use Rattle.std.specs.Prelude.{◌↔◌, IsTrue, is_some, not}
use Rattle.hv_answer.specs.declared.reply.Reply.{Reply}
use Rattle.hv_answer.specs.declared.reply.Reply.TheVariants as reply
use Rattle.hv_handed.specs.Takes.{SpaceTakes}
use Rattle.hv_region.specs.declared.window.Window.{Window}
use Rattle.hv_rules.specs.Carry.{Carry, nothing}
use Rattle.hv_rules.specs.Space.{reached}
use Rattle.hv_space.specs.Space.{SpaceState}
use Rattle.hv_step.specs.declared.step.Fault.{Fault}
use Rattle.hv_step.specs.declared.step.Step.TheVariants as step

no_some : {A : Type 0} (found : Option A) (b : Bool) → is_some found ≡ not b → b ≡ true → found ≡ None
no_some None b told holds = refl
no_some (Some x) true told holds = cc
no_some (Some x) false told holds = cc

is_true : (b : Bool) → false ≡ not b → b ≡ true
is_true true told = refl
is_true false told = cc

-- an access faults exactly where no window holds it
pub faults : (space : SpaceState) (s : Fault) (found : Option Window) (b : Bool) → is_some found ≡ not b
    → found ≡ reached space.windows s.address s.size
    → IsTrue b ↔ ((r : Reply) (c : Carry) → SpaceTakes (step.Fault s) r c space space)
faults space s found b told is = (
  λ holds r c. record { agrees = sym is ∙ no_some found b told holds; after = refl },
  λ takes. is_true b (sym (ap (λ (o : Option Window). is_some o) (is ∙ (takes reply.Rest nothing).agrees)) ∙ told),
)
