use Rattle.hv_dts.proofs.Twice.{noting_more, noting_done}
use Rattle.hv_dts.proofs.names.note_labels.Goals as goal

pub loop-label-preserved : goal.loop-label-preserved
loop-label-preserved c = λ earlier holds.
    noting_more c.loop-label.names c.note_place.new.names c.loop-label.best c.in_ok-best.best c.args.before c.args.labels.now c.loop-label.label-index c.label-item.result earlier
    c.loop-label-test.true c.label-item.is c.in_ok-best.ensures (c.loop-label.invariant earlier holds)

pub returns : goal.returns
returns c = λ earlier holds.
    noting_done c.loop-label.names c.loop-label.best c.args.before c.args.labels.now c.loop-label.label-index earlier c.loop-label-test.false (c.loop-label.invariant earlier holds)
