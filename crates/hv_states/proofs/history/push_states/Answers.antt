use Rattle.hv_states.proofs.Told.{read-more}
use Rattle.hv_states.proofs.history.push_states.Goals as goal

pub loop-event-preserved : goal.loop-event-preserved
loop-event-preserved c =
    read-more c.args.history.now c.loop-event.event-index c.event-item.result c.loop-event.states c.take.new.self c.loop-event-test.true c.event-item.is c.loop-event.invariant c.in_ok-take.ensures.ok
