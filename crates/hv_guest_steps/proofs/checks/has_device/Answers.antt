use Rattle.std.proofs.Common.{◌∙◌, refl, sym, ap}
use Rattle.std.specs.Result.{is_ok}
use Rattle.hv_dir.specs.Pool.{devices_of, place_of}
use Rattle.hv_region.specs.declared.plan.Form.{Form}
use Rattle.hv_rules.specs.Shelf.{device_for}
use Rattle.hv_guest_steps.proofs.Devices.{took_some}
use Rattle.hv_guest_steps.proofs.checks.has_device.Goals as goal

pub returns-in-Device : goal.returns-in-Device
returns-in-Device g c =
    let devices = devices_of g.E.Emulator.state c.args.shelf.now in
    c.has.ensures
    ∙ (sym (took_some devices c.in-Device.names (place_of devices c.in-Device.names) refl)
    ∙ ap (λ (f : Form). is_ok (device_for devices f)) (sym c.in-Device.is))
