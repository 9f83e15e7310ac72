use Rattle.hv_region_events.proofs.Rows.{dropped-in-rows}
use Rattle.hv_region_events.proofs.removal.live_on.Goals as goal

pub returns-clause-row : goal.returns-clause-row
returns-clause-row g c =
    let space = c.space.result.now in
    dropped-in-rows c.live_window.result space.windows c.args.row (c.requires.sound.rows c.args.guest.slot space c.requires.slot c.space.ensures) c.requires.row c.live_window.ensures
