use Rattle.hv_rules.proofs.WindowLemmas.{place_is, window_is, target_is}
use Rattle.hv_rules.proofs.MeetingLemmas.{put_is, met_is}
use Rattle.hv_rules.proofs.searches.searches_find_what_the_rules_name.Goals as goal

pub returns-clause-place : goal.returns-clause-place
returns-clause-place c = place_is

pub returns-clause-window : goal.returns-clause-window
returns-clause-window c = window_is

pub returns-clause-target : goal.returns-clause-target
returns-clause-target c = target_is

pub returns-clause-added : goal.returns-clause-added
returns-clause-added c = put_is

pub returns-clause-met : goal.returns-clause-met
returns-clause-met c = met_is
