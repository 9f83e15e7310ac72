use Rattle.std.proofs.Common.{List, ℕ, subst, sym, ◌∙◌}
use Rattle.hv_asm.proofs.Assemblies.{AssembledTo, at_start, one_more}
use Rattle.hv_asm.proofs.assembly.assemble_lines.Goals as goal

pub loop-start-init : goal.loop-start-init
loop-start-init c = subst (λ (bytes : List ℕ). AssembledTo c.args.text.now 0 0 bytes) (sym (c.from_vec-bytes.ensures ∙ c.new.ensures.items)) (at_start c.args.text.now)

pub loop-start-preserved : goal.loop-start-preserved
loop-start-preserved c =
    one_more c.args.text.now c.loop-start.from c.loop-start.number c.in-Some.start c.in-Some.end c.in-Some.next c.loop-start.bytes c.push_line.new.to c.loop-start.invariant c.in-Some.ensures c.in_ok-push_line.ensures.ok
