use Rattle.std.proofs.Common.{◌∙◌, Some, sym, ap}
use Rattle.hv_guest_steps.specs.Admission.{asked_of}
use Rattle.hv_rules.specs.Dir.{guest_in}
use Rattle.hv_region_events.proofs.Made.{given-guest}
use Rattle.hv_region_events.proofs.removal.drop_event.Goals as goal

pub slot_of-slot-requires : goal.slot_of-slot-requires
slot_of-slot-requires g c =
    let d = c.directory.result.now in
    let drop = c.in-Drop.drop in
    ap (λ name. guest_in d name drop.stage) c.as_slice.ensures
    ∙ given-guest d drop.name drop.stage c.args.guest
    (sym (ap (λ s. asked_of d s (Some c.args.row)) c.in-Drop.is) ∙ c.requires.granted.granted d c.directory.ensures)
