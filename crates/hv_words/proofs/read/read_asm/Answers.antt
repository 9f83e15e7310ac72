use Rattle.std.proofs.Common.{[], ◌∷◌}
use Rattle.std.proofs.lemmas.Result.{err_from_is_err_and}
use Rattle.hv_words.specs.Words.{words}
use Rattle.hv_words.specs.Commands.{AnyPath, NamedPath, PathGiven}
use Rattle.hv_words.proofs.ArgumentLemmas.{refused_later}
use Rattle.hv_words.proofs.read.read_asm.Goals as goal

pub returns-in_err-target : goal.returns-in_err-target
returns-in_err-target c =
    let p = err_from_is_err_and c.from_residual-in_err-target.result c.from_residual-in_err-target.ensures.1 in
    rw (p.1, p.2) (refused_later AnyPath (NamedPath ∷ []) c.in-Some.word.now (words c.in-Some.rest.now) (words c.args.text.now) 3 (PathGiven c.in_ok-source.source) _ c.in-Some.ensures c.in_ok-source.ensures c.in_err-target.ensures)
