use Rattle.hv_answer.proofs.Replies.{reply_free}
use Rattle.hv_answer.proofs.read.replies_have_no_space.Goals as goal

pub returns : goal.returns
returns c = reply_free
