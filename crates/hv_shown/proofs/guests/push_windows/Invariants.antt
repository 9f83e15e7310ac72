use Rattle.std.proofs.Common.{◌≡◌, ◌++◌, take}
use Rattle.hv_model.specs.Transcript.{windows_shown}
use Rattle.hv_shown.proofs.guests.push_windows.Given as goal

abbrev pub invariant-loop-window : goal.invariant-loop-window
invariant-loop-window l = l.to ≡ l.fn.to ++ windows_shown l.regions (take l.window-index l.windows)
