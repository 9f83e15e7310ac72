use Rattle.hv_device_steps.proofs.FaultLemmas.{faults}
use Rattle.hv_device_steps.proofs.reach.is_fault.Goals as goal

pub returns : goal.returns
returns c =
    faults c.args.space.now c.args.step c.window_reached.result c.is_none.result c.is_none.ensures c.window_reached.ensures
