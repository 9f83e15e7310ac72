use Rattle.std.proofs.Common.{take}
use Rattle.hv_asm.specs.Reading.{HasNoBlanks}
use Rattle.hv_asm.proofs.word.word_len.Given as goal

abbrev pub invariant-loop-at : goal.invariant-loop-at
invariant-loop-at l = HasNoBlanks (take l.at l.text)
