use Rattle.hv_dts.specs.Rules.{least, unlabelled}
use Rattle.hv_dts.proofs.Labels.{lent, lacks_more, lacks_all}
use Rattle.hv_dts.proofs.references.unlabelled.Goals as goal

pub loop-name-preserved : goal.loop-name-preserved
loop-name-preserved c = λ held holds.
    lacks_more held c.args.names.now c.loop-name.name-index c.name-item.result c.loop-name.best c.lacking-best.result (least (unlabelled held (lent c.args.names.now)))
    c.loop-name-test.true c.name-item.is (c.lacking-best.ensures held holds) (c.loop-name.invariant held holds)

pub returns : goal.returns
returns c = λ held holds.
    lacks_all held c.args.names.now c.loop-name.name-index c.loop-name.best (least (unlabelled held (lent c.args.names.now))) c.loop-name-test.false (c.loop-name.invariant held holds)
