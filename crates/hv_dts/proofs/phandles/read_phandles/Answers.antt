use Rattle.std.proofs.Common.{refl}
use Rattle.hv_dts.proofs.Numbers.{counting_start, counting_more, counted_best, counted_used}
use Rattle.hv_dts.proofs.phandles.read_phandles.Goals as goal

pub loop-entry-init : goal.loop-entry-init
loop-entry-init c = counting_start _ c.args.entries.now refl c.new.ensures.empty

pub loop-entry-preserved : goal.loop-entry-preserved
loop-entry-preserved c =
    counting_more c.loop-entry.found c.take.new.self c.args.entries.now c.loop-entry.entry-index c.entry-item.result c.loop-entry-test.true c.entry-item.is c.in_ok-take.ensures c.loop-entry.invariant

pub returns-clause-best : goal.returns-clause-best
returns-clause-best c = counted_best c.loop-entry.found c.args.entries.now c.loop-entry.entry-index c.loop-entry-test.false c.loop-entry.invariant

pub returns-clause-used : goal.returns-clause-used
returns-clause-used c = counted_used c.loop-entry.found c.args.entries.now c.loop-entry.entry-index c.loop-entry-test.false c.loop-entry.invariant
