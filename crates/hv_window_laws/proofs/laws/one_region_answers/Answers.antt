use Rattle.hv_window_laws.proofs.Answered.{access-in-window, access-once, fetch-in-window, fetch-once, no-access, no-fetch}
use Rattle.hv_window_laws.proofs.laws.one_region_answers.Goals as goal

pub returns-clause-fetch_once : goal.returns-clause-fetch_once
returns-clause-fetch_once c = fetch-once

pub returns-clause-access_once : goal.returns-clause-access_once
returns-clause-access_once c = access-once

pub returns-clause-fetch_or_fault : goal.returns-clause-fetch_or_fault
returns-clause-fetch_or_fault c = no-fetch

pub returns-clause-access_or_fault : goal.returns-clause-access_or_fault
returns-clause-access_or_fault c = no-access

pub returns-clause-fetch : goal.returns-clause-fetch
returns-clause-fetch c = fetch-in-window

pub returns-clause-access : goal.returns-clause-access
returns-clause-access c = access-in-window
