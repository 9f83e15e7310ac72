use Rattle.hv_listing.proofs.Entry.{guests_free, windows_free}
use Rattle.hv_listing.proofs.law.lists_have_no_space.Goals as goal

pub returns : goal.returns
returns c = record { guests = guests_free; windows = windows_free }
