use Rattle.hv_look.proofs.Looks.{look_free}
use Rattle.hv_look.proofs.read.looks_have_no_space.Goals as goal

pub returns : goal.returns
returns c = look_free
