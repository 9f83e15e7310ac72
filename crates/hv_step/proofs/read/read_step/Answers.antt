use Rattle.std.proofs.Common.{sym, ◌∙◌}
use Rattle.hv_step.proofs.Fronts.{step_read, no_step_where_unnamed}
use Rattle.hv_step.proofs.read.read_step.Goals as goal

pub returns-in_default-find_name : goal.returns-in_default-find_name
returns-in_default-find_name c = no_step_where_unnamed c.args.words.now c.in-Some.behind.now c.in-Some.first.now c.in-Some.ensures (sym c.in_default-find_name.is ∙ c.find_name.ensures.spelled)

pub returns : goal.returns
returns c =
    step_read (λ found. found.0) (λ found. found.1.now) c.args.words.now c.in-Some.behind.now c.in-Some.first.now c.in-Some-find_name.name c.read_arguments.result c.in-Some.ensures c.in-Some-find_name.ensures.word c.read_arguments.ensures
