use Rattle.hv_following.proofs.FollowsLemmas as lemmas
use Rattle.hv_following.proofs.made.Goals as goal

pub returns : goal.returns
returns g c = lemmas.made g.R.Ranked.machine
