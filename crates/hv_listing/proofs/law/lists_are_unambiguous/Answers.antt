use Rattle.hv_listing.proofs.Entry.{same_guests, same_windows}
use Rattle.hv_listing.proofs.law.lists_are_unambiguous.Goals as goal

pub returns : goal.returns
returns c = record { guests = same_guests; windows = same_windows }
