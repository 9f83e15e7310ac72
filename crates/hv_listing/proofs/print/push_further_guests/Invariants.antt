use Rattle.std.proofs.Common.{◌≡◌, ◌++◌, take}
use Rattle.hv_listing.specs.Listing.{guest_text, further_entries}
use Rattle.hv_listing.proofs.print.push_further_guests.Given as goal

abbrev pub invariant-loop-guest : goal.invariant-loop-guest
invariant-loop-guest l = l.to ≡ l.fn.to ++ further_entries guest_text (take l.guest-index l.guests)
