use Rattle.std.proofs.Common.{◌≡◌, drop}
use Rattle.hv_words.specs.Words.{words}
use Rattle.hv_words.proofs.word.behind_spaces.Given as goal

abbrev pub invariant-loop-at : goal.invariant-loop-at
invariant-loop-at l = words (drop l.at l.text) ≡ words l.text
