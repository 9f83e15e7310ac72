use Rattle.std.proofs.Common.{sym, subst}
use Rattle.hv_answer.specs.declared.reply.Reply.{Reply}
use Rattle.hv_handed.specs.Given.{given}
use Rattle.hv_handed.specs.Takes.{SpaceTakes}
use Rattle.hv_step.specs.declared.step.Step.TheVariants as step
use Rattle.hv_memory_steps.proofs.LookLemmas.{space_mem_refused}
use Rattle.hv_memory_steps.proofs.looks.mem_nowhere.Goals as goal

pub returns-clause-space : goal.returns-clause-space
returns-clause-space g c =
    subst (λ (r : Reply). SpaceTakes (step.Mem c.args.step.now) r (given g.E.Emulator.state c.made_alone.result.handed.value) c.args.space.now c.args.space.now) (sym c.made_alone.ensures.reply)
    (space_mem_refused c.args.step.now _ c.args.space.now c.made_alone.ensures.handed c.requires)
