use Rattle.hv_data.proofs.DataLemmas.{data_free}
use Rattle.hv_data.proofs.law.words_have_no_space.Goals as goal

pub returns : goal.returns
returns c = data_free
