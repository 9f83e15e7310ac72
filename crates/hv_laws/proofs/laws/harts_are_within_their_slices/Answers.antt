use Rattle.hv_laws.proofs.Runs.{harts-are-within}
use Rattle.hv_laws.proofs.laws.harts_are_within_their_slices.Goals as goal

pub returns : goal.returns
returns c = harts-are-within
