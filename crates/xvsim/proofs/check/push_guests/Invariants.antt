use Rattle.std.proofs.Common.{◌≡◌, ◌++◌, length}
use Rattle.xvsim.specs.Check.{guests_text}
use Rattle.xvsim.proofs.check.push_guests.Given as goal

abbrev pub invariant-guests : goal.invariant-guests
invariant-guests l = l.to ++ guests_text l.names l.plans ≡ l.fn.to ++ guests_text l.fn.names l.fn.plans

abbrev pub decreases-guests : goal.decreases-guests
decreases-guests l = length l.names
