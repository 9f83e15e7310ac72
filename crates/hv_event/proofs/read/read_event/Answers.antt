use Rattle.std.proofs.Common.{◌∙◌}
use Rattle.hv_event.proofs.Events.{read_found, read_event, read_bad, read_none}
use Rattle.hv_event.proofs.read.read_event.Goals as goal

pub returns-clause-found : goal.returns-clause-found
returns-clause-found c = read_found c.args.line.now c.deref.result.now c.read_line.result (c.deref.ensures.value ∙ c.in_ok-words.ensures) c.read_line.ensures

pub returns-clause-event : goal.returns-clause-event
returns-clause-event c = read_event c.args.line.now c.deref.result.now c.read_line.result (c.deref.ensures.value ∙ c.in_ok-words.ensures) c.read_line.ensures

pub returns-clause-bad : goal.returns-clause-bad
returns-clause-bad c = read_bad c.args.line.now c.deref.result.now c.read_line.result (c.deref.ensures.value ∙ c.in_ok-words.ensures) c.read_line.ensures

pub returns-clause-none : goal.returns-clause-none
returns-clause-none c = read_none c.args.line.now c.deref.result.now c.read_line.result (c.deref.ensures.value ∙ c.in_ok-words.ensures) c.read_line.ensures
