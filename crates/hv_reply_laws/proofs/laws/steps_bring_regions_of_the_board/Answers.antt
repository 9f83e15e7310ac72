use Rattle.hv_reply_laws.proofs.Regions.{step-brings}
use Rattle.hv_reply_laws.proofs.laws.steps_bring_regions_of_the_board.Goals as goal

pub returns : goal.returns
returns c = step-brings
