-- It is a lemma.
use Rattle.hv_model.proofs.Reports.{report-once}
use Rattle.hv_model.proofs.laws.a_history_has_one_report.Goals as goal

pub returns : goal.returns
returns c = report-once
