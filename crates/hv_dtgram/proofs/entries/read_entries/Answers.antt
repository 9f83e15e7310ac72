use Rattle.hv_dtgram.proofs.Found.{has_entries}
use Rattle.hv_dtgram.proofs.entries.read_entries.Goals as goal

pub returns-clause-found : goal.returns-clause-found
returns-clause-found c = has_entries c.args.text.now c.in_ok-tokens.tokens.items c.in_ok-entries.entries c.in_ok-tokens.ensures.found c.in_ok-entries.ensures
