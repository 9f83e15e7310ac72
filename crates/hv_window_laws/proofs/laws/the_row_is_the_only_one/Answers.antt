use Rattle.hv_window_laws.proofs.Rows.{access-or-fault, fetch-or-fault, only-access, only-fetch}
use Rattle.hv_window_laws.proofs.laws.the_row_is_the_only_one.Goals as goal

pub returns-clause-fetch : goal.returns-clause-fetch
returns-clause-fetch c = only-fetch

pub returns-clause-fetch_or_fault : goal.returns-clause-fetch_or_fault
returns-clause-fetch_or_fault c = fetch-or-fault

pub returns-clause-access : goal.returns-clause-access
returns-clause-access c = only-access

pub returns-clause-access_or_fault : goal.returns-clause-access_or_fault
returns-clause-access_or_fault c = access-or-fault
