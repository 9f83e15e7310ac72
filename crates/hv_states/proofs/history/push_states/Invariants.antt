use Rattle.std.proofs.Common.{◌≡◌, take}
use Rattle.hv_model.specs.States.{states_of}
use Rattle.hv_states.specs.ByNumber.{by_number}
use Rattle.hv_states.proofs.history.push_states.Given as goal

abbrev pub invariant-loop-event : goal.invariant-loop-event
invariant-loop-event l = l.states ≡ by_number (states_of (take l.event-index l.history))
