use Rattle.std.proofs.Common.{sym, subst, ◌∙◌}
use Rattle.hv_dts.specs.Reading.{IsSourceOf}
use Rattle.hv_dts.proofs.Exclusive.{same_refusal, source_answer}
use Rattle.hv_dts.proofs.Unique.{tree_same, not_refused}
use Rattle.hv_dts.proofs.read.read_dts.Goals as goal

pub returns-in-Ok-clause-only : goal.returns-in-Ok-clause-only
returns-in-Ok-clause-only c = λ tree is. c.of_root.ensures ∙ tree_same c.args.text.now c.in-Ok.root tree c.in-Ok.ensures.found is

pub returns-in-Err-clause-only : goal.returns-in-Err-clause-only
returns-in-Err-clause-only c = λ tree is. not_refused c.args.text.now tree c.in-Err.refusal is c.in-Err.ensures.refused

pub returns-in-Ok-clause-refuses : goal.returns-in-Ok-clause-refuses
returns-in-Ok-clause-refuses c = λ refused it.
    source_answer c.args.text.now c.of_root.result refused (subst (IsSourceOf c.args.text.now) (sym c.of_root.ensures) c.in-Ok.ensures.found) it

pub returns-in-Err-clause-refuses : goal.returns-in-Err-clause-refuses
returns-in-Err-clause-refuses c = λ refused it. same_refusal c.args.text.now c.in-Err.refusal refused c.in-Err.ensures.refused it
