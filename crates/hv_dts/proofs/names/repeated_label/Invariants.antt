use Rattle.std.proofs.Common.{drop}
use Rattle.hv_dts.proofs.Twice.{NotingAll}
use Rattle.hv_dts.proofs.names.repeated_label.Given as goal

abbrev pub invariant-loop-entry : goal.invariant-loop-entry
invariant-loop-entry l = NotingAll l.names l.best (drop l.entry-index l.entries) l.entries
