use Rattle.std.proofs.Common.{ap, sym, ◌∙◌}
use Rattle.hv_model.specs.Plans.{plan_of}
use Rattle.hv_model.specs.Work.{plan_for}
use Rattle.hv_programs.specs.Ask.{asked_of}
use Rattle.hv_terminals.proofs.task.plan_for.Goals as goal

pub returns-in-Create-clause-plan : goal.returns-in-Create-clause-plan
returns-in-Create-clause-plan c =
    c.plan_of.ensures.plan ∙ ap (plan_of c.args.plans.now) c.as_slice.ensures
    ∙ sym (ap (λ asked. plan_for c.args.plans.now (asked_of asked)) c.in-Create.is)

pub returns-in-Destroy-clause-plan : goal.returns-in-Destroy-clause-plan
returns-in-Destroy-clause-plan c =
    c.plan_of-in-Destroy.ensures.plan ∙ ap (plan_of c.args.plans.now) c.as_slice-in-Destroy.ensures
    ∙ sym (ap (λ asked. plan_for c.args.plans.now (asked_of asked)) c.in-Destroy.is)

pub returns-in-EachVcpu-clause-plan : goal.returns-in-EachVcpu-clause-plan
returns-in-EachVcpu-clause-plan c =
    c.plan_of-in-EachVcpu.ensures.plan ∙ ap (plan_of c.args.plans.now) c.as_slice-in-EachVcpu.ensures
    ∙ sym (ap (λ asked. plan_for c.args.plans.now (asked_of asked)) c.in-EachVcpu.is)
