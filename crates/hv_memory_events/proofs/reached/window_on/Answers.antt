use Rattle.std.proofs.Common.{sym, subst}
use Rattle.hv_kinds.specs.declared.address.AddressType.TheVariants.{Memory}
use Rattle.hv_memory_events.proofs.Areas.{window-leads}
use Rattle.hv_memory_events.specs.Reached.{LeadsToRow}
use Rattle.hv_memory_events.proofs.reached.window_on.Goals as goal

pub returns-clause-row : goal.returns-clause-row
returns-clause-row g c =
    let space = c.space.result.now in
    subst LeadsToRow (sym c.memory_window.ensures)
    (window-leads space.windows Memory c.args.address c.in_ok-size.size (c.requires.sound.rows c.args.guest.slot space c.requires.slot c.space.ensures))
