use Rattle.std.proofs.Common.{ℕ, ◌∷◌, sym, subst}
use Rattle.std.specs.Prelude.{IfSome}
use Rattle.hv_event.specs.declared.event.ActorId.TheVariants.{Hart}
use Rattle.hv_event.specs.declared.event.CellId.TheVariants as component
use Rattle.hv_parts.specs.Takes.{IsMadeAt}
use Rattle.hv_rules.specs.Footprint.{reached}
use Rattle.hv_step.specs.declared.step.Step.TheVariants as steps
use Rattle.hv_access_steps.proofs.accesses.access_at.Goals as goal

pub returns-in-None-clause-made : goal.returns-in-None-clause-made
returns-in-None-clause-made g c =
    subst (λ o. IfSome c.access_own.result (λ made. (harts : ℕ) → IsMadeAt g.E.Emulator.state harts (Hart c.args.hart) (component.Vcpu c.args.step.vcpu ∷ reached c.args.step.generation c.args.step.row o) (steps.Access c.args.step) made c.args.parts.now c.access_own.new.parts)) (sym c.in-None.is)
    c.access_own.ensures.made

pub returns-in-Some-clause-made : goal.returns-in-Some-clause-made
returns-in-Some-clause-made g c =
    subst (λ o. (harts : ℕ) → IsMadeAt g.E.Emulator.state harts (Hart c.args.hart) (component.Vcpu c.args.step.vcpu ∷ reached c.args.step.generation c.args.step.row o) (steps.Access c.args.step) c.access_area.result c.args.parts.now c.access_area.new.parts) (sym c.in-Some.is)
    c.access_area.ensures
