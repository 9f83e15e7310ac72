use Rattle.std.proofs.Common.{sym, ◌∙◌, arith}
use Rattle.std.proofs.lemmas.List.{get_or_default}
use Rattle.hv_dtgram.proofs.Reading.{read_more, unexpected_here, unexpected_end, read_all}
use Rattle.hv_dtgram.proofs.grammar.first_unexpected.Goals as goal

pub returns-in_default : goal.returns-in_default
returns-in_default c =
    unexpected_here c.args.symbols.now c.loop-at.at c.loop-at.state c.loop-at.depth _ c.loop-at.invariant c.loop-at-test.true (get_or_default c.args.symbols.now c.loop-at.at _ _ c.loop-at-test.true) (sym c.step.ensures.next ∙ c.in_default.is)

pub loop-at-preserved : goal.loop-at-preserved
loop-at-preserved c =
    read_more c.args.symbols.now c.loop-at.at c.loop-at.state c.loop-at.depth _ c.in-Some.next c.in-Some.below c.loop-at.invariant c.loop-at-test.true (get_or_default c.args.symbols.now c.loop-at.at _ _ c.loop-at-test.true) (sym c.step.ensures.next ∙ c.in-Some.is) c.in-Some.ensures.deeper

pub returns-in-All : goal.returns-in-All
returns-in-All c = read_all c.args.symbols.now c.loop-at.at c.loop-at.state c.loop-at.depth c.loop-at.invariant (omega arith) c.in-All.is

pub returns-in_default-state : goal.returns-in_default-state
returns-in_default-state c = unexpected_end c.args.symbols.now c.loop-at.at c.loop-at.state c.loop-at.depth c.loop-at.invariant (omega arith) c.in_default-state.not-All
