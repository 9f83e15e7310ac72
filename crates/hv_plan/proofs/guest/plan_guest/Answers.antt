use Rattle.hv_plan.specs.Guests.{guest_node}
use Rattle.hv_plan.proofs.Keeps.{given_keeps}
use Rattle.hv_plan.proofs.guest.plan_guest.Goals as goal

pub returns-clause-rules : goal.returns-clause-rules
returns-clause-rules c = given_keeps c.args.areas.now (guest_node c.root.result.now c.args.name.now) c.plan_below.result c.plan_below.ensures
