use Rattle.std.proofs.Common.{drop}
use Rattle.hv_dts.proofs.Labels.{Covers, lent}
use Rattle.hv_dts.proofs.references.name_set.Given as goal

abbrev pub invariant-loop-name : goal.invariant-loop-name
invariant-loop-name l = Covers l.set (lent (drop l.name-index l.names)) (lent l.names)
