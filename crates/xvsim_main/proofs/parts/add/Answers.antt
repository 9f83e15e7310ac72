use Rattle.std.proofs.Common.{sym, subst}
use Rattle.hv_emu.specs.Device.{IsInReset}
use Rattle.xvsim_main.proofs.Resets.{in_reset, all_reset}
use Rattle.xvsim_main.proofs.parts.add.Goals as goal

pub returns : goal.returns
returns g c =
    rw c.in_ok-push.ensures.items
    (all_reset g.E.Emulator.state c.args.parts.now.items c.reset.new.self c.requires
    (subst IsInReset (sym c.reset.ensures) (in_reset (g.E.Emulator.state c.args.part))))
