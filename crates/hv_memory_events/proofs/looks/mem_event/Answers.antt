use Rattle.std.proofs.Common.{◌∙◌, None, sym, ap}
use Rattle.hv_guest_steps.specs.Admission.{asked_of}
use Rattle.hv_kinds.specs.declared.stage.Stage.TheVariants.{Made}
use Rattle.hv_rules.specs.Dir.{guest_in}
use Rattle.hv_memory_events.proofs.Made.{given-guest}
use Rattle.hv_memory_events.proofs.looks.mem_event.Goals as goal

pub slot_of-slot-requires : goal.slot_of-slot-requires
slot_of-slot-requires g c =
    let d = c.directory.result.now in
    let look = c.in-Mem.look in
    ap (λ name. guest_in d name Made) c.as_slice.ensures
    ∙ given-guest d look.name c.args.guest (sym (ap (λ s. asked_of d s None) c.in-Mem.is) ∙ c.requires.granted.granted d c.directory.ensures)
