use Rattle.std.proofs.Common.{[], ◌∷◌}
use Rattle.std.proofs.lemmas.Result.{err_from_is_err_and}
use Rattle.hv_words.specs.Words.{words}
use Rattle.hv_words.specs.Commands.{AnyAddress, ByteCount, NumberGiven}
use Rattle.hv_words.proofs.ArgumentLemmas.{refused_later}
use Rattle.hv_guest_words.proofs.read.address_and_count.Goals as goal

pub returns-in_err-count : goal.returns-in_err-count
returns-in_err-count c =
    let p = err_from_is_err_and c.from_residual-in_err-count.result c.from_residual-in_err-count.ensures.1 in
    rw (p.1, p.2) (refused_later AnyAddress (ByteCount ∷ []) c.in-Some.word.now (words c.in-Some.rest.now) (words c.args.text.now) 4 (NumberGiven c.in_ok-address.address) _ c.in-Some.ensures c.in_ok-address.ensures c.in_err-count.ensures)
