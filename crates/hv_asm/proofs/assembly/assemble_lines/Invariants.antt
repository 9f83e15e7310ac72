use Rattle.std.proofs.Common.{◌-◌, length}
use Rattle.hv_asm.proofs.Assemblies.{AssembledTo}
use Rattle.hv_asm.proofs.assembly.assemble_lines.Given as goal

abbrev pub invariant-loop-start : goal.invariant-loop-start
invariant-loop-start l = AssembledTo l.text l.from l.number l.bytes

abbrev pub decreases-loop-start : goal.decreases-loop-start
decreases-loop-start l = length l.text - l.from
