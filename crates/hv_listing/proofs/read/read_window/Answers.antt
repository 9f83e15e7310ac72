use Rattle.std.proofs.lemmas.Result.{err_from_is_err_and}
use Rattle.hv_data.proofs.Composed.{because_more}
use Rattle.hv_listing.proofs.Entry.{no_place}
use Rattle.hv_listing.proofs.read.read_window.Goals as goal

pub returns-in_err-base : goal.returns-in_err-base
returns-in_err-base c =
    let p = err_from_is_err_and c.from_residual-in_err-base.result c.from_residual-in_err-base.ensures.1 in
    rw (p.1, p.2) (because_more _ (no_place c.args.words.now c.in_ok-owner.words.now c.in_ok-owner.owner c.in_ok-owner.target c.in_ok-owner.address_type c.in_ok-owner.ensures) c.in_err-base.ensures)
