use Rattle.hv_refusal.proofs.Refusals.{same_refusal}
use Rattle.hv_refusal.proofs.read.refusals_are_unambiguous.Goals as goal

pub returns : goal.returns
returns c = same_refusal
