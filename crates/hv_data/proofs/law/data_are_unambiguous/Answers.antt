use Rattle.hv_data.proofs.DataLemmas.{same_data}
use Rattle.hv_data.proofs.law.data_are_unambiguous.Goals as goal

pub returns : goal.returns
returns c = same_data
