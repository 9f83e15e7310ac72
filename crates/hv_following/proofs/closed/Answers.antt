use Rattle.hv_following.proofs.FollowsLemmas as lemmas
use Rattle.hv_following.proofs.closed.Goals as goal

pub returns : goal.returns
returns g c = lemmas.closed g.R.Ranked.machine
