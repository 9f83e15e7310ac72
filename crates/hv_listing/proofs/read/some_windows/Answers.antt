use Rattle.std.proofs.lemmas.Result.{err_from_is_err_and}
use Rattle.hv_data.proofs.Composed.{because_more}
use Rattle.hv_listing.specs.Listing.{window_text, IsWindow}
use Rattle.hv_listing.proofs.Entry.{windows_fronted}
use Rattle.hv_listing.proofs.Entries.{first_read, more_read, none_first, none_more, all_read}
use Rattle.hv_listing.proofs.read.some_windows.Goals as goal

pub returns-in_err-first : goal.returns-in_err-first
returns-in_err-first c =
    let p = err_from_is_err_and c.from_residual.result c.from_residual.ensures.1 in
    rw (p.1, p.2) (because_more _ (none_first IsWindow window_text c.args.text.now) c.in_err-first.ensures)

pub loop-behind-init : goal.loop-behind-init
loop-behind-init c = rw (c.in_ok-push.ensures.items, c.new-windows.ensures.items) (first_read IsWindow window_text c.args.text.now c.in_ok-first.rest.now c.in_ok-first.first c.in_ok-first.ensures)

pub returns-in_err-window : goal.returns-in_err-window
returns-in_err-window c =
    let p = err_from_is_err_and c.from_residual-in_err-window.result c.from_residual-in_err-window.ensures.1 in
    rw (p.1, p.2) (because_more _ (none_more IsWindow window_text windows_fronted c.args.text.now c.loop-behind.windows.items c.loop-behind.rest.now c.in-Some.behind.now c.loop-behind.invariant c.in-Some.ensures) c.in_err-window.ensures)

pub loop-behind-preserved : goal.loop-behind-preserved
loop-behind-preserved c =
    rw c.in_ok-push-2.ensures.items (more_read IsWindow window_text c.args.text.now c.loop-behind.windows.items c.loop-behind.rest.now c.in-Some.behind.now c.in_ok-window.further.now c.in_ok-window.window c.loop-behind.invariant c.in-Some.ensures c.in_ok-window.ensures)

pub returns : goal.returns
returns c = all_read IsWindow window_text c.args.text.now c.loop-behind.windows.items c.loop-behind.rest.now c.loop-behind.invariant c.in_default.ensures
