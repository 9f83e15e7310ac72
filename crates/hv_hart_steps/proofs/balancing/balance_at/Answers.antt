use Rattle.std.proofs.Common.{◌≡◌}
use Rattle.std.specs.Prelude.{true}
use Rattle.hv_event.specs.declared.event.ActorId.TheVariants.{Hart}
use Rattle.hv_parts.specs.Value.{valued}
use Rattle.hv_parts.proofs.Lists.{stand-before}
use Rattle.hv_rules.specs.Vcpu.{runs_on}
use Rattle.hv_hart_steps.proofs.Moving.{vcpu-behind}
use Rattle.hv_hart_steps.proofs.balancing.balance_at.Goals as goal

pub balance_behind-requires-clause-long : goal.balance_behind-requires-clause-long
balance_behind-requires-clause-long g c = (stand-before (valued g.E.Emulator.state) c.args.harts 0 0 c.args.parts.now c.requires.parts).long

pub balance_behind-requires-clause-queues : goal.balance_behind-requires-clause-queues
balance_behind-requires-clause-queues g c = (stand-before (valued g.E.Emulator.state) c.args.harts 0 0 c.args.parts.now c.requires.parts).queues

pub balance_behind-requires-clause-vcpu : goal.balance_behind-requires-clause-vcpu
balance_behind-requires-clause-vcpu g c = (stand-before (valued g.E.Emulator.state) c.args.harts 0 0 c.args.parts.now c.requires.parts).vcpu

pub balance_behind-requires-clause-runs : goal.balance_behind-requires-clause-runs
balance_behind-requires-clause-runs g c =
    vcpu-behind (valued g.E.Emulator.state) (λ vcpu. runs_on (Hart c.args.hart) vcpu.state ≡ true) c.args.harts 0 0 c.args.parts.now c.requires.parts c.requires.runs
