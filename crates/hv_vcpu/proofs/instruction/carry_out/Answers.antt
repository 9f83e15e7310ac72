use Rattle.std.proofs.Common.{ap, ◌∙◌}
use Rattle.hv_exec.specs.declared.context.Ctx.{Ctx}
use Rattle.hv_vcpu.proofs.Pins.{trap_keeps_pins}
use Rattle.hv_vcpu.proofs.instruction.carry_out.Goals as goal

pub returns-in-Trap-clause-pins : goal.returns-in-Trap-clause-pins
returns-in-Trap-clause-pins c = ap (λ (x : Ctx). x.pins) c.trap.ensures ∙ (trap_keeps_pins _ _ _ ∙ c.attempt-after.ensures.pins)
