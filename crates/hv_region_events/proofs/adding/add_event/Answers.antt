use Rattle.std.proofs.Common.{◌∙◌, Some, sym, ap}
use Rattle.hv_guest_steps.specs.Admission.{asked_of}
use Rattle.hv_rules.specs.Dir.{guest_in}
use Rattle.hv_region_events.proofs.Made.{given-guest}
use Rattle.hv_region_events.proofs.adding.add_event.Goals as goal

pub slot_of-slot-requires : goal.slot_of-slot-requires
slot_of-slot-requires g c =
    let d = c.directory.result.now in
    let add = c.in-Add.add in
    ap (λ name. guest_in d name add.stage) c.as_slice.ensures
    ∙ given-guest d add.name add.stage c.args.at.guest
    (sym (ap (λ s. asked_of d s (Some c.args.at.row)) c.in-Add.is) ∙ c.requires.granted.granted d c.directory.ensures)
