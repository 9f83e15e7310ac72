use Rattle.std.proofs.Common.{[], ◌∷◌}
use Rattle.std.proofs.lemmas.Result.{err_from_is_err_and}
use Rattle.hv_words.specs.Words.{words}
use Rattle.hv_words.specs.Commands.{SomeText, SomeWord, WordGiven}
use Rattle.hv_words.proofs.ArgumentLemmas.{refused_later}
use Rattle.hv_guest_words.proofs.read.word_and_text.Goals as goal

pub returns-in_err-bytes : goal.returns-in_err-bytes
returns-in_err-bytes c =
    let p = err_from_is_err_and c.from_residual-in_err-bytes.result c.from_residual-in_err-bytes.ensures.1 in
    rw (p.1, p.2) (refused_later SomeWord (SomeText ∷ []) c.in-Some.word.now (words c.in-Some.rest.now) (words c.args.text.now) 4 (WordGiven c.in_ok-region.region) _ c.in-Some.ensures c.in_ok-region.ensures c.in_err-bytes.ensures)
