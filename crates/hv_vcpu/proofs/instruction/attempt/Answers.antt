use Rattle.std.proofs.Common.{◌≡◌, ap, ◌∙◌}
use Rattle.hv_exec.specs.declared.context.Ctx.{Ctx}
use Rattle.hv_vcpu.proofs.Pins.{meaning_keeps_pins, system_keeps_pins}
use Rattle.hv_vcpu.proofs.instruction.attempt.Goals as goal

pub returns-in-System-clause-pins : goal.returns-in-System-clause-pins
returns-in-System-clause-pins c =
    let first : c.exec.new.ctx.pins ≡ c.args.ctx.now.pins = ap (λ (x : Ctx). x.pins) c.exec.ensures.context ∙ meaning_keeps_pins _ _ in
    let then' : c.system.new.ctx.pins ≡ c.exec.new.ctx.pins = ap (λ (x : Ctx). x.pins) c.system.ensures.context ∙ system_keeps_pins _ _ in
    then' ∙ first

pub returns-in_default-exec-3-clause-pins : goal.returns-in_default-exec-3-clause-pins
returns-in_default-exec-3-clause-pins c = ap (λ (x : Ctx). x.pins) c.exec.ensures.context ∙ meaning_keeps_pins _ _
