use Rattle.std.proofs.Common.{drop}
use Rattle.hv_dts.proofs.Numbers.{Counting}
use Rattle.hv_dts.proofs.phandles.read_phandles.Given as goal

abbrev pub invariant-loop-entry : goal.invariant-loop-entry
invariant-loop-entry l = Counting l.found (drop l.entry-index l.entries) l.entries
