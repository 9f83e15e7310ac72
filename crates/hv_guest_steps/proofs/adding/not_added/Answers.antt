use Rattle.std.proofs.Common.{◌∙◌, Some}
use Rattle.hv_rules.specs.Carry.{nothing}
use Rattle.hv_guest_steps.proofs.Refusing.{shelf_refuses, space_refuses}
use Rattle.hv_guest_steps.proofs.adding.not_added.Goals as goal

pub returns-clause-shelf : goal.returns-clause-shelf
returns-clause-shelf g c =
    λ s windows devices may.
    shelf_refuses c.args.at c.args.plan.now c.args.why c.refusal_of.result _ s windows devices
    (c.region_handed.ensures
    ∙ (λ i. record nothing { row = Some c.args.at.row; plan = Some (c.of.ensures i, c.args.at.vcpus); stopped = c.stopped_by.ensures i }))
    c.refusal_of.ensures may

pub returns-clause-space : goal.returns-clause-space
returns-clause-space g c =
    λ s space devices of_guest may.
    space_refuses c.args.at c.args.plan.now c.args.why c.refusal_of.result _ s space devices
    (c.region_handed.ensures
    ∙ (λ i. record nothing { row = Some c.args.at.row; plan = Some (c.of.ensures i, c.args.at.vcpus); stopped = c.stopped_by.ensures i }))
    of_guest may

pub returns-clause-handed : goal.returns-clause-handed
returns-clause-handed g c =
    c.region_handed.ensures
    ∙ (λ i. record nothing { row = Some c.args.at.row; plan = Some (c.of.ensures i, c.args.at.vcpus); stopped = c.stopped_by.ensures i })
