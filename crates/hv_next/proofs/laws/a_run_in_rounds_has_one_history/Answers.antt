-- It is a lemma, and a history has one report.
use Rattle.std.proofs.Common.{List, sym, subst}
use Rattle.hv_event.specs.declared.event.Event.{Event}
use Rattle.hv_model.specs.Report.{IsReport}
use Rattle.hv_next.proofs.Rounds.{one-history}
use Rattle.hv_next.proofs.laws.a_run_in_rounds_has_one_history.Goals as goal

pub returns : goal.returns
returns c = record {
  history = λ O H K still x y. one-history O still H K x y;
  report = λ O H K threads brief one other still x y shown told.
      let same = one-history O still H K x y in
      let Shows : List Event → Type 0 = λ h. IsReport O h threads brief other in
      c.a_history_has_one_report.ensures O H threads brief one other shown (subst Shows (sym same) told);
}
