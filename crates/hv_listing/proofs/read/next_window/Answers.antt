use Rattle.std.proofs.lemmas.Result.{err_from_is_err_and}
use Rattle.hv_data.proofs.Composed.{because_more}
use Rattle.hv_listing.specs.Listing.{window_data, IsWindow}
use Rattle.hv_listing.proofs.Entry.{windows_fielded, no_fields, no_entry, entry_begins}
use Rattle.hv_listing.proofs.read.next_window.Goals as goal

pub returns-in_err-fields : goal.returns-in_err-fields
returns-in_err-fields c =
    let p = err_from_is_err_and c.from_residual.result c.from_residual.ensures.1 in
    rw (p.1, p.2) (because_more _ (no_fields IsWindow window_data 6 windows_fielded c.args.text.now) c.in_err-fields.ensures)

pub returns-in_err-window : goal.returns-in_err-window
returns-in_err-window c =
    let p = err_from_is_err_and c.from_residual-in_err-window.result c.from_residual-in_err-window.ensures.1 in
    rw (p.1, p.2) (because_more _ (no_entry IsWindow window_data 6 windows_fielded c.args.text.now c.deref.result.now c.in_ok-fields.rest.now (rw c.deref.ensures.value c.in_ok-fields.ensures)) c.in_err-window.ensures)

pub returns : goal.returns
returns c = entry_begins IsWindow window_data 6 windows_fielded c.args.text.now c.deref.result.now c.in_ok-fields.rest.now (rw c.deref.ensures.value c.in_ok-fields.ensures) c.in_ok-window.window c.in_ok-window.ensures
