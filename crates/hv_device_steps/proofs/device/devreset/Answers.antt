use Rattle.std.proofs.Common.{refl}
use Rattle.hv_body.specs.Body.{seen}
use Rattle.hv_rules.specs.Body.{parent_of}
use Rattle.hv_device_steps.proofs.TakenLemmas.{devreset_taken}
use Rattle.hv_device_steps.proofs.device.devreset.Goals as goal

pub returns-clause-body : goal.returns-clause-body
returns-clause-body g c =
    λ s. devreset_taken c.args.row s _ (parent_of (seen g.E.Emulator.state c.args.body.now)) c.changes.result _ _
    c.hand_body-handed.ensures refl c.reset.ensures (c.changes.ensures _ _ c.of-before.ensures c.of.ensures)
