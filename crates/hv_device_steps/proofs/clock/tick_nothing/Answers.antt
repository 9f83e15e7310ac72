use Rattle.hv_device_steps.proofs.TakenLemmas.{space_rests}
use Rattle.hv_device_steps.proofs.clock.tick_nothing.Goals as goal

pub returns-clause-space : goal.returns-clause-space
returns-clause-space g c = λ s. space_rests s _ c.args.space.now c.requires c.hand_nothing.ensures
