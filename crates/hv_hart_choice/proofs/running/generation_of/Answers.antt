use Rattle.std.proofs.Common.{◌≡◌, ℕ, true, refl, arith}
use Rattle.std.specs.Prelude.{Some}
use Rattle.hv_event.specs.declared.event.ActorId.TheVariants.{Hart}
use Rattle.hv_kinds.specs.declared.state.State.{State}
use Rattle.hv_kinds.specs.declared.state.State.TheVariants.{Unknown}
use Rattle.hv_rules.specs.Vcpu.{runs_on}
use Rattle.hv_vcpu.specs.Vcpu.{unless_unknown}
use Rattle.hv_hart_choice.proofs.running.generation_of.Goals as goal

-- A VCPU that runs is there.
born : (hart : ℕ) (s : State) (birth : ℕ) → runs_on (Hart hart) s ≡ true → unless_unknown s birth ≡ Some birth
born hart Unknown birth runs = absurd (cc)
born hart _ birth runs = refl

pub returns-clause-birth : goal.returns-clause-birth
returns-clause-birth c =
    let there = born c.args.hart c.args.vcpu.now.state c.args.vcpu.now.birth c.requires in
    grind (arith, there, c.birth.ensures, c.unwrap_or.ensures)
