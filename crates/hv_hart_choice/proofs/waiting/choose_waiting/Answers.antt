use Rattle.hv_hart_choice.proofs.waiting.choose_waiting.Goals as goal

pub returns-clause-led : goal.returns-clause-led
returns-clause-led c = c.choose_access.ensures.led c.args.vcpu.now.context.pc
