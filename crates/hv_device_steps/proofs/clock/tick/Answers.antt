use Rattle.std.proofs.Common.{ℕ, ap, ◌∙◌, Option}
use Rattle.hv_device_steps.proofs.TakenLemmas.{of_clock, space_ticks, tick_taken}
use Rattle.hv_device_steps.proofs.clock.tick.Goals as goal

pub returns-clause-space : goal.returns-clause-space
returns-clause-space g c =
    λ s. space_ticks s _ _ c.clock.result c.parent_of.result c.args.space.now c.requires c.clock.ensures c.hand_clock-handed.ensures

pub returns-clause-body : goal.returns-clause-body
returns-clause-body g c =
    λ row s. tick_taken row s _ c.clock.result c.parent_of.result c.changes.result _ _ c.hand_clock-handed.ensures
    c.parent_of.ensures c.tick.ensures (c.changes.ensures _ _ c.of-before.ensures c.of.ensures)

pub returns-clause-alone : goal.returns-clause-alone
returns-clause-alone g c =
    c.hand_clock-handed.ensures
    ∙ (ap (λ (clock : Option (ℕ × ℕ)). of_clock clock c.parent_of.result) c.clock.ensures
    ∙ ap (λ (parent : Option (ℕ × ℕ)). of_clock c.args.space.now.clock parent) c.parent_of.ensures)
