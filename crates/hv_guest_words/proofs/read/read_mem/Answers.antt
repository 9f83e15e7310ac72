use Rattle.std.proofs.Common.{[], ◌∷◌}
use Rattle.std.proofs.lemmas.Result.{err_from_is_err_and}
use Rattle.hv_words.specs.Words.{words}
use Rattle.hv_words.specs.Commands.{AnyAddress, ByteCount, SomeWord, WordGiven}
use Rattle.hv_words.proofs.ArgumentLemmas.{refused_later}
use Rattle.hv_guest_words.proofs.read.read_mem.Goals as goal

pub returns-in_err-address : goal.returns-in_err-address
returns-in_err-address c =
    let p = err_from_is_err_and c.from_residual-in_err-address.result c.from_residual-in_err-address.ensures.1 in
    rw (p.1, p.2) (refused_later SomeWord (AnyAddress ∷ ByteCount ∷ []) c.in-Some.word.now (words c.in-Some.rest.now) (words c.args.text.now) 3 (WordGiven c.in_ok-name.name) _ c.in-Some.ensures c.in_ok-name.ensures c.in_err-address.ensures)
