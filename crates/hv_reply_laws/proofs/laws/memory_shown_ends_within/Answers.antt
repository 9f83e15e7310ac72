use Rattle.hv_reply_laws.proofs.Memory.{memory-shown}
use Rattle.hv_reply_laws.proofs.laws.memory_shown_ends_within.Goals as goal

pub returns : goal.returns
returns c = memory-shown
