use Rattle.std.proofs.lemmas.Result.{err_from_is_err_and}
use Rattle.hv_data.proofs.Composed.{because_more}
use Rattle.hv_name.specs.declared.name.StepName.TheVariants as name
use Rattle.hv_step.specs.Reading.{AreNoArguments}
use Rattle.hv_step.proofs.read.read_arguments.Goals as goal

pub returns-in_err-path-in-Ls : goal.returns-in_err-path-in-Ls
returns-in_err-path-in-Ls c =
    let p = err_from_is_err_and c.from_residual-in_err-path-in-Ls.result c.from_residual-in_err-path-in-Ls.ensures.1 in
    rw (p.1, p.2, c.in-Ls.is) (because_more {Q = AreNoArguments name.Ls c.args.words.now} _ (λ none s rest h. none s.path _ (h.0.0, h.1)) c.in_err-path-in-Ls.ensures)

pub returns-in_err-path-in-Cat : goal.returns-in_err-path-in-Cat
returns-in_err-path-in-Cat c =
    let p = err_from_is_err_and c.from_residual-in_err-path-in-Cat.result c.from_residual-in_err-path-in-Cat.ensures.1 in
    rw (p.1, p.2, c.in-Cat.is) (because_more {Q = AreNoArguments name.Cat c.args.words.now} _ (λ none s rest h. none s.path _ (h.0.0, h.1)) c.in_err-path-in-Cat.ensures)

pub returns-in_err-path-in-Dts : goal.returns-in_err-path-in-Dts
returns-in_err-path-in-Dts c =
    let p = err_from_is_err_and c.from_residual-in_err-path-in-Dts.result c.from_residual-in_err-path-in-Dts.ensures.1 in
    rw (p.1, p.2, c.in-Dts.is) (because_more {Q = AreNoArguments name.Dts c.args.words.now} _ (λ none s rest h. none s.path _ (h.0.0, h.1)) c.in_err-path-in-Dts.ensures)

pub returns-in_err-path-in-Run : goal.returns-in_err-path-in-Run
returns-in_err-path-in-Run c =
    let p = err_from_is_err_and c.from_residual-in_err-path-in-Run.result c.from_residual-in_err-path-in-Run.ensures.1 in
    rw (p.1, p.2, c.in-Run.is) (because_more {Q = AreNoArguments name.Run c.args.words.now} _ (λ none s rest h. none s.path _ (h.0.0, h.1)) c.in_err-path-in-Run.ensures)

pub returns-in_err-path-in-Mkdir : goal.returns-in_err-path-in-Mkdir
returns-in_err-path-in-Mkdir c =
    let p = err_from_is_err_and c.from_residual-in_err-path-in-Mkdir.result c.from_residual-in_err-path-in-Mkdir.ensures.1 in
    rw (p.1, p.2, c.in-Mkdir.is) (because_more {Q = AreNoArguments name.Mkdir c.args.words.now} _ (λ none s rest h. none s.path _ (h.0.0, h.1)) c.in_err-path-in-Mkdir.ensures)

pub returns-in_err-path-in-Rm : goal.returns-in_err-path-in-Rm
returns-in_err-path-in-Rm c =
    let p = err_from_is_err_and c.from_residual-in_err-path-in-Rm.result c.from_residual-in_err-path-in-Rm.ensures.1 in
    rw (p.1, p.2, c.in-Rm.is) (because_more {Q = AreNoArguments name.Rm c.args.words.now} _ (λ none s rest h. none s.path _ (h.0.0, h.1)) c.in_err-path-in-Rm.ensures)
