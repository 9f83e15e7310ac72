use Rattle.std.proofs.lemmas.Result.{err_from_is_err_and}
use Rattle.hv_words.proofs.ArgumentLemmas.{refused_as_named}
use Rattle.hv_words.proofs.argument.read_named_path.Goals as goal

pub returns-in_err-path : goal.returns-in_err-path
returns-in_err-path c =
    let p = err_from_is_err_and c.from_residual.result c.from_residual.ensures.1 in
    rw (p.1, p.2) (refused_as_named c.args.word.now c.args.at _ c.in_err-path.ensures)
