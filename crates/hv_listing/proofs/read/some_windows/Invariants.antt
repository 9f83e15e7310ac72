use Rattle.std.proofs.Common.{length}
use Rattle.hv_listing.specs.Listing.{window_text, IsWindow}
use Rattle.hv_listing.proofs.Entries.{HasRead}
use Rattle.hv_listing.proofs.read.some_windows.Given as goal

abbrev pub invariant-loop-behind : goal.invariant-loop-behind
invariant-loop-behind l = HasRead IsWindow window_text l.fn.text l.windows.items l.rest

abbrev pub decreases-loop-behind : goal.decreases-loop-behind
decreases-loop-behind l = length l.rest
