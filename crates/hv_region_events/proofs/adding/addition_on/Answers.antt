use Rattle.std.proofs.Common.{◌<◌}
use Rattle.hv_guest_steps.specs.Additions.{MayAdd, MayNotAdd, region_at}
use Rattle.hv_dir.specs.Pool.{devices_of}
use Rattle.hv_region_steps.specs.Regions.{changed_row}
use Rattle.hv_text.specs.declared.limits.TheConstants.{GUEST_REGIONS}
use Rattle.hv_region_events.proofs.Rows.{case-in-rows}
use Rattle.hv_region_events.proofs.adding.addition_on.Goals as goal

pub returns-clause-row : goal.returns-clause-row
returns-clause-row g c =
    let space = c.space.result.now in
    case-in-rows c.addition.result space.windows (devices_of g.E.Emulator.state c.shelf.result.now) (region_at c.args.at c.args.plan.now)
    (c.requires.sound.rows c.args.at.guest.slot space c.requires.slot c.space.ensures) c.requires.can_be.row c.addition.ensures
