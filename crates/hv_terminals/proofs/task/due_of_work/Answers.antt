use Rattle.std.proofs.Common.{◌≡◌, ap, sym, subst, ◌∙◌}
use Rattle.hv_model.specs.Session.{Task, goes, task_for}
use Rattle.hv_terminals.specs.Task.{IsDueOf}
use Rattle.hv_terminals.specs.Work.{work_in}
use Rattle.hv_terminals.proofs.task.due_of_work.Goals as goal

pub returns-in_ok-due-in-Several-clause-due : goal.returns-in_ok-due-in-Several-clause-due
returns-in_ok-due-in-Several-clause-due c =
    let same : goes c.in_ok-line-in-Several.line ≡ task_for c.args.plans.now (work_in c.args.work) =
    ap goes c.in_ok-line-in-Several.ensures.line ∙ sym (ap (λ work. task_for c.args.plans.now (work_in work)) c.in-Several.is)
    in
    subst (λ (task : Task). IsDueOf c.args.plans.now c.args.room task c.in_ok-due-in-Several.due) same
    (c.in_ok-due-in-Several.ensures.due c.args.room)
