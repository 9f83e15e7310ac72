use Rattle.std.proofs.Common.{take}
use Rattle.hv_data.specs.Written.{AreListedNames}
use Rattle.hv_data.proofs.word.are_listed_names.Given as goal

abbrev pub invariant-loop-entry : goal.invariant-loop-entry
invariant-loop-entry l = AreListedNames (take l.entry-index l.entries)
