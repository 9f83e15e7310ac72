use Rattle.hv_dtgram.proofs.Reading.{IsRead}
use Rattle.hv_dtgram.proofs.grammar.first_unexpected.Given as goal

abbrev pub invariant-loop-at : goal.invariant-loop-at
invariant-loop-at l = IsRead l.symbols l.at l.state l.depth
