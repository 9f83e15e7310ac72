use Rattle.std.proofs.Common.{length}
use Rattle.hv_listing.specs.Listing.{guest_text, IsGuest}
use Rattle.hv_listing.proofs.Entries.{HasRead}
use Rattle.hv_listing.proofs.read.some_guests.Given as goal

abbrev pub invariant-loop-behind : goal.invariant-loop-behind
invariant-loop-behind l = HasRead IsGuest guest_text l.fn.text l.guests.items l.rest

abbrev pub decreases-loop-behind : goal.decreases-loop-behind
decreases-loop-behind l = length l.rest
