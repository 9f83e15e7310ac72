use Rattle.std.proofs.Common.{[], ◌∷◌}
use Rattle.std.proofs.lemmas.Result.{err_from_is_err_and}
use Rattle.hv_words.specs.Words.{words}
use Rattle.hv_words.specs.Commands.{SomeText, SomeWord, WordGiven}
use Rattle.hv_words.proofs.ArgumentLemmas.{refused_later}
use Rattle.hv_guest_words.proofs.read.read_send.Goals as goal

pub returns-in_err-region : goal.returns-in_err-region
returns-in_err-region c =
    let p = err_from_is_err_and c.from_residual-in_err-region.result c.from_residual-in_err-region.ensures.1 in
    rw (p.1, p.2) (refused_later SomeWord (SomeWord ∷ SomeText ∷ []) c.in-Some.word.now (words c.in-Some.rest.now) (words c.args.text.now) 3 (WordGiven c.in_ok-name.name) _ c.in-Some.ensures c.in_ok-name.ensures c.in_err-region.ensures)
