use Rattle.hv_dts.proofs.Labels.{lent, covers_start, covers_more, covers_all}
use Rattle.hv_dts.proofs.references.name_set.Goals as goal

pub loop-name-init : goal.loop-name-init
loop-name-init c = covers_start c.new-set.result (lent c.args.names.now) c.new-set.ensures.empty

pub loop-name-preserved : goal.loop-name-preserved
loop-name-preserved c =
    covers_more c.loop-name.set c.note_name.new.names c.args.names.now c.loop-name.name-index c.name-item.result c.loop-name-test.true c.name-item.is
    (λ earlier holds. (c.in_ok-note_name.ensures earlier holds).1) c.loop-name.invariant

pub returns : goal.returns
returns c = covers_all c.loop-name.set c.args.names.now c.loop-name.name-index c.loop-name-test.false c.loop-name.invariant
