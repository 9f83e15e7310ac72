use Rattle.hv_dtree.proofs.Strings.{Passed}
use Rattle.hv_dtree.proofs.values.string_in.Given as goal

abbrev pub invariant-passed : goal.invariant-passed
invariant-passed l = Passed l.value l._count l.rest
