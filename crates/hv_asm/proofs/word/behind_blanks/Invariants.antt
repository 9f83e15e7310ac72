use Rattle.std.proofs.Common.{◌≡◌, drop}
use Rattle.hv_asm.specs.Line.{words}
use Rattle.hv_asm.proofs.word.behind_blanks.Given as goal

abbrev pub invariant-loop-at : goal.invariant-loop-at
invariant-loop-at l = words (drop l.at l.text) ≡ words l.text
