-- It is a lemma, and a history has one report.
use Rattle.std.proofs.Common.{List, sym, subst}
use Rattle.hv_event.specs.declared.event.Event.{Event}
use Rattle.hv_model.specs.Report.{IsReport}
use Rattle.hv_hart_next.proofs.Rounds.{one-history}
use Rattle.hv_hart_next.proofs.laws.rounds_have_one_history.Goals as goal

pub returns : goal.returns
returns c = record {
  history = λ O good H K x y. one-history O H K x y good;
  report = λ O good H K threads brief text other x y shown told.
      let same = one-history O H K x y good in
      let Shows : List Event → Type 0 = λ h. IsReport O h threads brief other in
      c.a_history_has_one_report.ensures O H threads brief text other shown (subst Shows (sym same) told);
}
