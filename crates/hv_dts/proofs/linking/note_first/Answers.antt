use Rattle.std.proofs.Common.{sym}
use Rattle.hv_dts.proofs.Links.{first_put}
use Rattle.hv_dts.proofs.linking.note_first.Goals as goal

pub returns : goal.returns
returns g c =
    first_put c.args.map.now c.insert.new.self c.in_ok-clone.field-0 c.args.label.now c.args.value c.in_ok-clone.ensures.cases (sym c.if-contains_key.ensures) c.in_ok-insert.ensures.updates.0
