use Rattle.std.proofs.Common.{◌≡◌, ◌-◌, ◌==◌, false, length, take}
use Rattle.std.specs.List.{list_any}
use Rattle.hv_body.proofs.window.has_window.Given as goal

abbrev pub invariant-others : goal.invariant-others
invariant-others l = list_any (λ there. there.owner == l.owner) (take l.place l.windows) ≡ false

abbrev pub decreases-others : goal.decreases-others
decreases-others l = length l.windows - l.place
