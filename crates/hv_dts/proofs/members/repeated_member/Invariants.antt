use Rattle.std.proofs.Common.{drop}
use Rattle.hv_dts.proofs.Nesting.{Following}
use Rattle.hv_dts.proofs.members.repeated_member.Given as goal

abbrev pub invariant-loop-entry : goal.invariant-loop-entry
invariant-loop-entry l = Following l.members (drop l.entry-index l.entries) l.entries
