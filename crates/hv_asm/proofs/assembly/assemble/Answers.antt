use Rattle.hv_asm.proofs.Assemblies.{bytes_only, bad_only}
use Rattle.hv_asm.proofs.assembly.assemble.Goals as goal

pub returns-clause-bytes : goal.returns-clause-bytes
returns-clause-bytes c = λ bytes is. bytes_only c.args.text.now c.assemble_lines.result bytes c.assemble_lines.ensures is

pub returns-clause-bad : goal.returns-clause-bad
returns-clause-bad c = λ number is. bad_only c.args.text.now c.assemble_lines.result number c.assemble_lines.ensures is
