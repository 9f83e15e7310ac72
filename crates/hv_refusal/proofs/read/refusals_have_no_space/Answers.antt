use Rattle.hv_refusal.proofs.Refusals.{refusal_free}
use Rattle.hv_refusal.proofs.read.refusals_have_no_space.Goals as goal

pub returns : goal.returns
returns c = refusal_free
