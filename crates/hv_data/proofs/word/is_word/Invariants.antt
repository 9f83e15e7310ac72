use Rattle.std.proofs.Common.{take}
use Rattle.std.specs.List.{AllByRecursion}
use Rattle.hv_data.specs.Written.{IsShown}
use Rattle.hv_data.proofs.word.is_word.Given as goal

abbrev pub invariant-loop-byte : goal.invariant-loop-byte
invariant-loop-byte l = AllByRecursion IsShown (take l.byte-index l.word)
