use Rattle.std.proofs.Common.{◌≡◌, ◌++◌, take}
use Rattle.hv_model.specs.Transcript.{names_shown}
use Rattle.hv_rounds.proofs.show.push_names.Given as goal

abbrev pub invariant-loop-name : goal.invariant-loop-name
invariant-loop-name l = l.to ≡ l.fn.to ++ names_shown (take l.name-index l.names)
