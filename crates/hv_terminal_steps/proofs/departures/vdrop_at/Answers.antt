use Rattle.std.proofs.Common.{refl}
use Rattle.hv_parts.specs.Value.{valued}
use Rattle.hv_parts.proofs.Lists.{stand-before}
use Rattle.hv_terminal_steps.proofs.departures.vdrop_at.Goals as goal

pub vdrop_behind-requires-clause-long : goal.vdrop_behind-requires-clause-long
vdrop_behind-requires-clause-long g c = (stand-before (valued g.E.Emulator.state) c.args.harts 0 c.args.step.vcpu c.args.parts.now c.requires).long

pub vdrop_behind-requires-clause-queues : goal.vdrop_behind-requires-clause-queues
vdrop_behind-requires-clause-queues g c = (stand-before (valued g.E.Emulator.state) c.args.harts 0 c.args.step.vcpu c.args.parts.now c.requires).queues

pub vdrop_behind-requires-clause-vcpu : goal.vdrop_behind-requires-clause-vcpu
vdrop_behind-requires-clause-vcpu g c = (stand-before (valued g.E.Emulator.state) c.args.harts 0 c.args.step.vcpu c.args.parts.now c.requires).vcpu

pub returns : goal.returns
returns g c =
    λ by.
    record {
      touched = refl;
      taken = c.vdrop_behind.ensures.taken by;
      alone = c.vdrop_behind.ensures.alone;
      told = c.vdrop_behind.ensures.told;
    }
