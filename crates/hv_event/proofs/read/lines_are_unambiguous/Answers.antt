use Rattle.hv_event.proofs.Events.{same_event}
use Rattle.hv_event.proofs.read.lines_are_unambiguous.Goals as goal

pub returns : goal.returns
returns c = same_event
