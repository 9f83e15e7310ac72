use Rattle.std.proofs.lemmas.Result.{err_from_is_err_and}
use Rattle.hv_data.proofs.Composed.{because_more}
use Rattle.hv_listing.specs.Listing.{guest_data, IsGuest}
use Rattle.hv_listing.proofs.Entry.{guests_fielded, no_fields, no_entry, entry_begins}
use Rattle.hv_listing.proofs.read.next_guest.Goals as goal

pub returns-in_err-fields : goal.returns-in_err-fields
returns-in_err-fields c =
    let p = err_from_is_err_and c.from_residual.result c.from_residual.ensures.1 in
    rw (p.1, p.2) (because_more _ (no_fields IsGuest guest_data 3 guests_fielded c.args.text.now) c.in_err-fields.ensures)

pub returns-in_err-guest : goal.returns-in_err-guest
returns-in_err-guest c =
    let p = err_from_is_err_and c.from_residual-in_err-guest.result c.from_residual-in_err-guest.ensures.1 in
    rw (p.1, p.2) (because_more _ (no_entry IsGuest guest_data 3 guests_fielded c.args.text.now c.deref.result.now c.in_ok-fields.rest.now (rw c.deref.ensures.value c.in_ok-fields.ensures)) c.in_err-guest.ensures)

pub returns : goal.returns
returns c = entry_begins IsGuest guest_data 3 guests_fielded c.args.text.now c.deref.result.now c.in_ok-fields.rest.now (rw c.deref.ensures.value c.in_ok-fields.ensures) c.in_ok-guest.guest c.in_ok-guest.ensures
