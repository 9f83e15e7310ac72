use Rattle.hv_following.proofs.FollowsLemmas as lemmas
use Rattle.hv_following.proofs.later.Goals as goal

pub returns : goal.returns
returns g c first a log seen now f l = lemmas.later g.R.Ranked.machine first a log seen f now l
