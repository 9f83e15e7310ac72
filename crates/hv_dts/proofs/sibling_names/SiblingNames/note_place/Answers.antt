use Rattle.std.proofs.Common.{sym, ◌∙◌}
use Rattle.hv_dts.specs.Rules.{has_name}
use Rattle.hv_dts.proofs.Twice.{least_if, least_if_not}
use Rattle.hv_dts.proofs.sibling_names.SiblingNames.note_place.Goals as goal

pub returns-then-branch : goal.returns-then-branch
returns-then-branch c = λ earlier has.
    let step = c.in_ok-note.ensures earlier has in
    (c.lesser.ensures ∙ least_if (has_name earlier c.args.name.now.name) c.args.name.now.place c.args.best (sym step.0 ∙ c.if-branch.true), step.1)

pub returns : goal.returns
returns c = λ earlier has.
    let step = c.in_ok-note.ensures earlier has in
    (least_if_not (has_name earlier c.args.name.now.name) c.args.name.now.place c.args.best (sym step.0 ∙ c.if-branch.false), step.1)
