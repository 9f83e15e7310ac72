use Rattle.std.proofs.Common.{◌≡◌, ◌++◌, take}
use Rattle.hv_model.specs.Transcript.{guests_shown}
use Rattle.hv_shown.proofs.guests.push_guests.Given as goal

abbrev pub invariant-loop-guest : goal.invariant-loop-guest
invariant-loop-guest l = l.to ≡ l.fn.to ++ guests_shown (take l.guest-index l.guests)
