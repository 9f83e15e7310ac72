use Rattle.std.proofs.Common.{take}
use Rattle.hv_data.specs.Reading.{AreWordsOf}
use Rattle.hv_look.specs.Look.{AreNumbers, values_words}
use Rattle.hv_look.proofs.read.read_values.Given as goal

abbrev pub invariant-loop-word : goal.invariant-loop-word
invariant-loop-word l = AreWordsOf AreNumbers values_words (take l.word-index l.words) l.values.items
