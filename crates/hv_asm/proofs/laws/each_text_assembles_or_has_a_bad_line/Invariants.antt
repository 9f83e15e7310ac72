use Rattle.std.proofs.Common.{◌-◌, length}
use Rattle.hv_asm.proofs.Assemblies.{GoodTo}
use Rattle.hv_asm.proofs.laws.each_text_assembles_or_has_a_bad_line.Given as goal

abbrev pub invariant-loop-start : goal.invariant-loop-start
invariant-loop-start l = GoodTo l.text l.from

abbrev pub decreases-loop-start : goal.decreases-loop-start
decreases-loop-start l = length l.text - l.from
