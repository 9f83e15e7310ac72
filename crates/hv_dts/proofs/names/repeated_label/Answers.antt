use Rattle.hv_dts.proofs.Twice.{noting_entry, noted_all, noting_start}
use Rattle.hv_dts.proofs.names.repeated_label.Goals as goal

pub loop-entry-init : goal.loop-entry-init
loop-entry-init c = noting_start c.new-names.result c.args.entries.now c.new-names.ensures.empty

pub loop-entry-preserved : goal.loop-entry-preserved
loop-entry-preserved c =
    noting_entry c.loop-entry.names c.note_labels.new.names c.loop-entry.best c.in_ok-best.best c.args.entries.now c.loop-entry.entry-index c.entry-item.result c.labels.result.now
    c.loop-entry-test.true c.entry-item.is c.labels.ensures c.in_ok-best.ensures c.loop-entry.invariant

pub returns : goal.returns
returns c = noted_all c.loop-entry.names c.loop-entry.best c.args.entries.now c.loop-entry.entry-index c.loop-entry-test.false c.loop-entry.invariant
