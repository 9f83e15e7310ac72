use Rattle.std.proofs.Common.{List, sym, subst}
use Rattle.hv_event.specs.declared.event.Event.{Event}
use Rattle.hv_merge.proofs.PairLemmas.{IsMidway, stepped}
use Rattle.hv_merge.proofs.pair.merge_two.Goals as goal

pub loop-event-preserved : goal.loop-event-preserved
loop-event-preserved c =
    let Now : List Event → Type 0 = λ es. IsMidway c.args.one.items c.args.other.items es c.take_first.new.one.items c.take_first.new.other.items in
    subst Now (sym c.in_ok-push.ensures.items) (stepped c.args.one.items c.args.other.items c.loop-event.all.items c.loop-event.one.items c.loop-event.other.items c.in-Some.event c.take_first.new.one.items c.take_first.new.other.items c.loop-event.invariant c.in-Some.ensures)
