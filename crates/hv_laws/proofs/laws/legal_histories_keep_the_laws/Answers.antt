use Rattle.hv_laws.specs.Legal.{board_of}
use Rattle.hv_laws.proofs.Legal.{legal-reached}
use Rattle.hv_laws.proofs.Queued.{ready-is-queued}
use Rattle.hv_laws.proofs.Runs.{running-is-current}
use Rattle.hv_laws.proofs.laws.legal_histories_keep_the_laws.Goals as goal

pub returns-clause-running : goal.returns-clause-running
returns-clause-running c = λ O H s leads v h runs. running-is-current O.opening.harts (board_of O s) (legal-reached O H s leads) v h runs

pub returns-clause-ready : goal.returns-clause-ready
returns-clause-ready c = λ O H s leads some v. ready-is-queued O.opening.harts (board_of O s) some (legal-reached O H s leads) v
