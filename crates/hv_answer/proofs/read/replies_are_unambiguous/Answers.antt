use Rattle.hv_answer.proofs.Replies.{same_reply}
use Rattle.hv_answer.proofs.read.replies_are_unambiguous.Goals as goal

pub returns : goal.returns
returns c = same_reply
