use Rattle.std.proofs.Common.{◌≡◌, ◌∙◌, ap, sym, map, Some}
use Rattle.std.specs.Option.{option_map, option_map_or}
use Rattle.hv_body.specs.Body.{device_of, seen}
use Rattle.hv_dir.specs.Pool.{given_back}
use Rattle.hv_rules.specs.Carry.{nothing}
use Rattle.hv_guest_steps.proofs.Seen.{device_after, device_seen}
use Rattle.hv_guest_steps.proofs.removal.clear.Goals as goal

pub returns-clause-shelf : goal.returns-clause-shelf
returns-clause-shelf g c =
    let state = g.E.Emulator.state in
    let part : option_map state c.clear-part.result ≡ device_of (seen state c.args.body.now) =
    ap (option_map state) c.clear-part.ensures.device ∙ sym (device_seen state c.args.body.now) in
    let parts = c.in_ok-make_room.ensures.parts in
    c.give_back.ensures ∙ (λ i. option_map_or (given_back (map state (parts i))) (part i) (map state (parts i)))

pub returns-clause-handed : goal.returns-clause-handed
returns-clause-handed g c =
    let state = g.E.Emulator.state in
    let device =
    device_after _ state c.remembered-device.result c.clear-part.result c.remembered-device.ensures
    ∙ (ap (option_map state) c.clear-part.ensures.device ∙ sym (device_seen state c.args.body.now)) in
    c.region_handed.ensures ∙ (λ i. record nothing { row = Some c.args.row; device = device i; parent = c.parent_of-parent.ensures i })
