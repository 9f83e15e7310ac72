use Rattle.std.proofs.Common.{◌≡◌, ◌++◌, take}
use Rattle.hv_model.specs.Transcript.{registers_shown}
use Rattle.hv_shown.proofs.looks.push_generals.Given as goal

abbrev pub invariant-loop-place : goal.invariant-loop-place
invariant-loop-place l = l.to ≡ l.fn.to ++ registers_shown 1 (take l.place l.values)
