use Rattle.hv_look.proofs.Looks.{same_look}
use Rattle.hv_look.proofs.read.looks_are_unambiguous.Goals as goal

pub returns : goal.returns
returns c = same_look
