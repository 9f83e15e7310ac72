use Rattle.std.proofs.Common.{◌≡◌, ◌++◌, take}
use Rattle.hv_listing.specs.Listing.{window_text, further_entries}
use Rattle.hv_listing.proofs.print.push_further_windows.Given as goal

abbrev pub invariant-loop-window : goal.invariant-loop-window
invariant-loop-window l = l.to ≡ l.fn.to ++ further_entries window_text (take l.window-index l.windows)
