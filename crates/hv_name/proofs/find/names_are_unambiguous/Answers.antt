use Rattle.hv_name.proofs.Names.{same_name}
use Rattle.hv_name.proofs.find.names_are_unambiguous.Goals as goal

pub returns : goal.returns
returns c = same_name
