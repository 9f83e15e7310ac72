use Rattle.std.proofs.Common.{◌≡◌, ◌++◌, take}
use Rattle.std.specs.List.{flat_map}
use Rattle.hv_event.specs.Line.{event_text}
use Rattle.hv_model.specs.Transcript.{line}
use Rattle.xvsim.proofs.report.push_events.Given as goal

abbrev pub invariant-loop-event : goal.invariant-loop-event
invariant-loop-event l = l.to ≡ l.fn.to ++ flat_map (λ e. line (event_text e)) (take l.event-index l.events)
