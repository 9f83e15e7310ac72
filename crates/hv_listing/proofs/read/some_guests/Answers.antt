use Rattle.std.proofs.lemmas.Result.{err_from_is_err_and}
use Rattle.hv_data.proofs.Composed.{because_more}
use Rattle.hv_listing.specs.Listing.{guest_text, IsGuest}
use Rattle.hv_listing.proofs.Entry.{guests_fronted}
use Rattle.hv_listing.proofs.Entries.{first_read, more_read, none_first, none_more, all_read}
use Rattle.hv_listing.proofs.read.some_guests.Goals as goal

pub returns-in_err-first : goal.returns-in_err-first
returns-in_err-first c =
    let p = err_from_is_err_and c.from_residual.result c.from_residual.ensures.1 in
    rw (p.1, p.2) (because_more _ (none_first IsGuest guest_text c.args.text.now) c.in_err-first.ensures)

pub loop-behind-init : goal.loop-behind-init
loop-behind-init c = rw (c.in_ok-push.ensures.items, c.new-guests.ensures.items) (first_read IsGuest guest_text c.args.text.now c.in_ok-first.rest.now c.in_ok-first.first c.in_ok-first.ensures)

pub returns-in_err-guest : goal.returns-in_err-guest
returns-in_err-guest c =
    let p = err_from_is_err_and c.from_residual-in_err-guest.result c.from_residual-in_err-guest.ensures.1 in
    rw (p.1, p.2) (because_more _ (none_more IsGuest guest_text guests_fronted c.args.text.now c.loop-behind.guests.items c.loop-behind.rest.now c.in-Some.behind.now c.loop-behind.invariant c.in-Some.ensures) c.in_err-guest.ensures)

pub loop-behind-preserved : goal.loop-behind-preserved
loop-behind-preserved c =
    rw c.in_ok-push-2.ensures.items (more_read IsGuest guest_text c.args.text.now c.loop-behind.guests.items c.loop-behind.rest.now c.in-Some.behind.now c.in_ok-guest.further.now c.in_ok-guest.guest c.loop-behind.invariant c.in-Some.ensures c.in_ok-guest.ensures)

pub returns : goal.returns
returns c = all_read IsGuest guest_text c.args.text.now c.loop-behind.guests.items c.loop-behind.rest.now c.loop-behind.invariant c.in_default.ensures
