use Rattle.hv_reply_laws.proofs.Replies.{replied-of}
use Rattle.hv_reply_laws.proofs.Touched.{touched-agree}
use Rattle.hv_reply_laws.proofs.laws.steps_are_replied_to.Goals as goal

pub returns : goal.returns
returns c = λ O s e are may answered alone sampled. replied-of O s e.event.actor are e.event.step e.event.reply e.carry answered alone sampled (touched-agree O s e may)
