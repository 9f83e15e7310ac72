use Rattle.hv_laws.proofs.Queued.{ready-is-queued, entries-are-of-ready, ready-is-in-one-queue}
use Rattle.hv_laws.proofs.laws.ready_vcpus_are_queued.Goals as goal

pub returns-clause-once : goal.returns-clause-once
returns-clause-once c = ready-is-queued

pub returns-clause-entries : goal.returns-clause-entries
returns-clause-entries c = entries-are-of-ready

pub returns-clause-one_queue : goal.returns-clause-one_queue
returns-clause-one_queue c = ready-is-in-one-queue
