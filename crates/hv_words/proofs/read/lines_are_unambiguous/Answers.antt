use Rattle.hv_words.proofs.Unambiguous.{agreed}
use Rattle.hv_words.proofs.read.lines_are_unambiguous.Goals as goal

pub returns : goal.returns
returns c = λ line one other first second. agreed line one other first second
