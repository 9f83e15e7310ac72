use Rattle.std.proofs.Common.{length}
use Rattle.hv_words.proofs.TextLemmas.{SpellsSoFar}
use Rattle.hv_words.proofs.text.read_text.Given as goal

abbrev pub invariant-loop-byte : goal.invariant-loop-byte
invariant-loop-byte l = SpellsSoFar l.word l.bytes.items l.rest

abbrev pub decreases-loop-byte : goal.decreases-loop-byte
decreases-loop-byte l = length l.rest
