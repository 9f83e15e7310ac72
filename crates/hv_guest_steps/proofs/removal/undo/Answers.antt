use Rattle.std.proofs.Common.{◌∙◌, ℕ, ap, sym, List, Option}
use Rattle.std.specs.Option.{option_map_or}
use Rattle.hv_body.specs.Body.{device_of, seen}
use Rattle.hv_dir.specs.Pool.{devices_of, given_back}
use Rattle.hv_emu.specs.Device.{DevState}
use Rattle.hv_rules.specs.Body.{BodyValue, dropped, unless_alias}
use Rattle.hv_guest_steps.specs.Regions.{drop_carry}
use Rattle.hv_guest_steps.proofs.Own.{alias_is}
use Rattle.hv_guest_steps.proofs.Seen.{without_seen}
use Rattle.hv_guest_steps.proofs.removal.undo.Goals as goal

pub returns-clause-body : goal.returns-clause-body
returns-clause-body g c =
    let state = g.E.Emulator.state in
    let old : BodyValue = seen state c.args.body.now in
    ap (seen state) c.remove_window.ensures
    ∙ (without_seen state c.args.body.now c.args.row
    ∙ sym (ap (λ (t : Option (ℕ × ℕ)). dropped c.args.row t old) (alias_is c.args.window c.if-window.false)))

pub returns-clause-shelf : goal.returns-clause-shelf
returns-clause-shelf g c =
    let state = g.E.Emulator.state in
    let devices : List DevState = devices_of state c.args.shelf.now in
    sym (ap (λ (t : Option (ℕ × ℕ)). option_map_or (given_back devices) (unless_alias t (device_of (seen state c.args.body.now))) devices)
    (alias_is c.args.window c.if-window.false))

pub returns-clause-handed : goal.returns-clause-handed
returns-clause-handed g c =
    c.region_handed.ensures
    ∙ sym (ap (λ (t : Option (ℕ × ℕ)). drop_carry c.args.row t (seen g.E.Emulator.state c.args.body.now)) (alias_is c.args.window c.if-window.false))
