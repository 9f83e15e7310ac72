use Rattle.hv_hart_choice.proofs.running.choose_running.Goals as goal

pub returns-in-Some-clause-space : goal.returns-in-Some-clause-space
returns-in-Some-clause-space c = c.in-Some.ensures.space c.args.space.now

pub returns-in-Some-clause-led : goal.returns-in-Some-clause-led
returns-in-Some-clause-led c = c.in-Some.ensures.led c.args.space.now.windows c.args.vcpu.now.context.pc
