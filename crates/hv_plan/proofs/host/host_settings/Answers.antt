use Rattle.hv_plan.proofs.HostKeeps.{host_keeps}
use Rattle.hv_plan.proofs.host.host_settings.Goals as goal

pub returns-clause-rules : goal.returns-clause-rules
returns-clause-rules c = host_keeps c.root.result.now c.settings_below.result c.settings_below.ensures
